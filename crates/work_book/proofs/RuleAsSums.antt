-- The rule of a board, as sums over its views and facts about its words.
use Rattle.std.proofs.Common.{◌≡◌, ◌≢◌, ◌==◌, ℕ, zero, suc, ◌+◌, ◌*◌, ◌<◌, ◌≤◌, List, [], ◌∷◌, ◌++◌, Bool}
use Rattle.std.proofs.Common.{true, false, length, set, get_or, slice_index, map, nat_lt, if◌then◌else◌}
use Rattle.std.proofs.Common.{unwrap_or, true≢false, refl, sym, ap, ◌∙◌, subst, ⊎_elim, arith, count_by}
use Rattle.std.specs.List.{sum_by, slice_get, list_any, All}
use Rattle.std.proofs.lemmas.Bool.Decides.{nat_tests}
use Rattle.std.proofs.lemmas.List.Sums.{sum_by-cons, sum_by-append}
use Rattle.std.proofs.lemmas.List.Folds.{list_any_at}
use Rattle.std.proofs.lemmas.Bool.{eq-eqb}
use mathlib.Core.Option.{some}
use lib.ListN.{get_elem?}
use Rattle.atomic_table.specs.Table.{State}
use Rattle.atomic_table.proofs.Lists.{at_set}
use Rattle.work_book.specs.Seat.{SeatState}
use Rattle.work_book.specs.Book.{is_marked, job_among}
use Rattle.work_book.specs.Laws.{drawn_in, kept_in}
use Rattle.work_book.specs.Views.{seat_of, share_of, untold}
use Rattle.work_book.specs.Shown.{mark_of, next_of, shown}
use Rattle.work_book.specs.Rule.{IsKept, Fits, AreNumbers, MarksOwn}
use Rattle.work_book.specs.declared.rule.View.{View}
use Rattle.work_book.specs.declared.rule.Extent.{Extent}
use Rattle.work_book.proofs.StepsAreFair.{counted}

-- where the numbers stop
abbrev pub limit_of : Extent → ℕ
limit_of k = k.jobs * k.tries

-- how often a number stands in a list
abbrev pub times : ℕ → List ℕ → ℕ
times x xs = count_by (λ y. y == x) xs

abbrev pub draws_of : ℕ → View → ℕ
draws_of x v = times x v.drawn

abbrev pub keeps_of : ℕ → View → ℕ
keeps_of j v = times j v.kept

-- 1 where x is below n
abbrev pub once_below : ℕ → ℕ → ℕ
once_below x n = if nat_lt x n then 1 else 0

-- 0 where n is 0, and else 1
abbrev pub once_set : ℕ → ℕ
once_set n = if nat_lt 0 n then 1 else 0

pub record Held (k : Extent) (s : State (Unit {0}) View) : Type 0 where
  pub wide : length s.words ≡ k.jobs + 1
  pub drawn : (x : ℕ) → sum_by (draws_of x) s.views ≡ once_below x (next_of (limit_of k) s.words)
  pub kept : (j : ℕ) → sum_by (keeps_of j) s.views ≡ once_set (mark_of s.words j)
  pub numbers : AreNumbers (shown k s.words s.views) s.words
  pub shares : sum_by share_of s.views ≡ 65536
  pub room : slice_index s.words 0 + sum_by untold s.views ≤ limit_of k + 65536
  pub few : limit_of k ≤ 8388480
  pub fits : (i : ℕ) (v : View) → get_elem? s.views i ≡ some v → Fits (limit_of k) s.words v
  pub own : (i : ℕ) (v : View) → get_elem? s.views i ≡ some v → MarksOwn k.jobs s.words v

sum_seats : (f : SeatState → ℕ) (vs : List View) → sum_by f (map seat_of vs) ≡ sum_by (λ v. f (seat_of v)) vs
sum_seats f [] = refl
sum_seats f (v ∷ vs) =
    let a = sum_seats f vs in
    let b = sum_by-cons f (seat_of v) (map seat_of vs) in
    let c = sum_by-cons (λ u. f (seat_of u)) v vs in
    omega arith

-- a job is marked where its word isn't 0
pub marked_shown : (k : Extent) (ws : List ℕ) (vs : List View) (j : ℕ) →
    is_marked (shown k ws vs) j ≡ nat_lt 0 (mark_of ws j)
marked_shown k [] vs j = refl
marked_shown k (x ∷ ws) vs j = let e : suc j ≡ j + 1 = omega arith in
    go ws j ∙ ap (λ (n : ℕ). nat_lt 0 (slice_index (x ∷ ws) n)) e
  where
    go : (ws : List ℕ) (j : ℕ) → unwrap_or (slice_get (map (λ word. nat_lt 0 word) ws) j) false
        ≡ nat_lt 0 (slice_index ws j)
    go [] j = refl
    go (x ∷ ws) zero = refl
    go (x ∷ ws) (suc j) = go ws j

pub held_of : (k : Extent) (s : State (Unit {0}) View) → IsKept k s → Held k s
held_of k s h = record {
  wide = h.wide;
  drawn = λ x. sym (sum_seats (drawn_in x) s.views) ∙ h.drawn x;
  kept = λ j. sym (sum_seats (kept_in j) s.views) ∙ h.kept j
      ∙ ap (λ (b : Bool). if b then 1 else 0) (marked_shown k s.words s.views j);
  numbers = h.numbers;
  shares = h.shares;
  room = h.room;
  few = h.few;
  fits = h.fits;
  own = h.own;
}

pub kept_of : (k : Extent) (s : State (Unit {0}) View) → Held k s → IsKept k s
kept_of k s h = record {
  wide = h.wide;
  drawn = λ x. sum_seats (drawn_in x) s.views ∙ h.drawn x;
  kept = λ j. sum_seats (kept_in j) s.views ∙ h.kept j
      ∙ ap (λ (b : Bool). if b then 1 else 0) (sym (marked_shown k s.words s.views j));
  numbers = h.numbers;
  shares = h.shares;
  room = h.room;
  few = h.few;
  fits = h.fits;
  own = h.own;
}

-- no word goes down
abbrev pub Grows : List ℕ → List ℕ → Type 0
Grows old new = (i : ℕ) → slice_index old i ≤ slice_index new i

pub same_words : (ws : List ℕ) → Grows ws ws
same_words ws i = omega arith

fits_on : (limit : ℕ) (old new : List ℕ) (v : View) → Grows old new → Fits limit old v → Fits limit new v
fits_on limit old new v up f = record {
  limited = f.limited;
  told = λ t. let a = f.told t in let b = up 0 in omega arith;
  empty = f.empty;
  known = λ j h. let a = f.known j h in let b = up (j + 1) in omega arith;
}

-- one view changes, and no word goes down
pub fits_set : (limit : ℕ) (old new : List ℕ) (vs : List View) (i : ℕ) (w : View) → Grows old new
    → ((j : ℕ) (u : View) → get_elem? vs j ≡ some u → Fits limit old u) → Fits limit new w
    → (j : ℕ) (u : View) → get_elem? (set vs i w) j ≡ some u → Fits limit new u
fits_set limit old new vs i w up others mine j u e =
    ⊎_elim
    (λ (x : (j ≡ i) × (w ≡ u)). subst (Fits limit new) x.1 mine)
    (λ (x : (j ≢ i) × (get_elem? vs j ≡ some u)). fits_on limit old new u up (others j u x.1))
    (at_set vs i j w u e)

-- a mark that is set stays as it is
abbrev pub Stays : List ℕ → List ℕ → Type 0
Stays old new = (j : ℕ) → 0 < mark_of old j → mark_of new j ≡ mark_of old j

pub same_marks : (ws : List ℕ) → Stays ws ws
same_marks ws j p = refl

pub own_on : (jobs : ℕ) (old new : List ℕ) (v w : View) → Stays old new → w.kept ≡ v.kept → w.under ≡ v.under →
    MarksOwn jobs old v → MarksOwn jobs new w
own_on jobs old new v w stay kept under o = record {
  jobs_of = kept ∙ o.jobs_of ∙ ap (map (job_among jobs)) (sym under);
  marks = λ number p.
      let a = o.marks number (sym (ap (list_any (λ x. x == number)) under) ∙ p) in
      let b = stay (job_among jobs number) (omega arith) in
      b ∙ a;
}

-- one view changes, and no mark that is set
pub own_set : (jobs : ℕ) (old new : List ℕ) (vs : List View) (i : ℕ) (w : View) → Stays old new
    → ((j : ℕ) (u : View) → get_elem? vs j ≡ some u → MarksOwn jobs old u) → MarksOwn jobs new w
    → (j : ℕ) (u : View) → get_elem? (set vs i w) j ≡ some u → MarksOwn jobs new u
own_set jobs old new vs i w stay others mine j u e =
    ⊎_elim
    (λ (x : (j ≡ i) × (w ≡ u)). subst (MarksOwn jobs new) x.1 mine)
    (λ (x : (j ≢ i) × (get_elem? vs j ≡ some u)). own_on jobs old new u u stay refl refl (others j u x.1))
    (at_set vs i j w u e)

-- a seat without a kept job
pub own_none : (jobs : ℕ) (words : List ℕ) (v : View) → v.kept ≡ [] → v.under ≡ [] → MarksOwn jobs words v
own_none jobs words v kept under = record {
  jobs_of = kept ∙ ap (map (job_among jobs)) (sym under);
  marks = λ number p. absurd (true≢false (sym p ∙ ap (list_any (λ x. x == number)) under));
}

pub times_append : (x : ℕ) (xs ys : List ℕ) → times x (xs ++ ys) ≡ times x xs + times x ys
times_append x xs ys = sum_by-append (λ y. if y == x then 1 else 0) xs ys

-- what holds of each number that is found in a list holds of its elements
pub all_found : (P : ℕ → Type 0) (xs : List ℕ) → ((x : ℕ) → list_any (λ y. y == x) xs ≡ true → P x) → All P xs
all_found P xs each k d below = each (get_or xs k d)
    (list_any_at (λ y. y == get_or xs k d) xs k d below (eq-eqb (get_or xs k d) _ refl))

-- and so does what holds of each number that it counts
pub all_counted : (P : ℕ → Type 0) (xs : List ℕ) → ((x : ℕ) → 0 < times x xs → P x) → All P xs
all_counted P xs each = all_found P xs (λ x found. each x (counted xs x found))

pub once_below_at : (x n : ℕ) → 0 < once_below x n → x < n
once_below_at x n h = grind (arith, nat_tests)

pub once_below_le : (x n : ℕ) → once_below x n ≤ 1
once_below_le x n = grind (arith, nat_tests)

pub once_set_le : (n : ℕ) → once_set n ≤ 1
once_set_le n = grind (arith, nat_tests)

pub once_set_zero : (n : ℕ) → n ≡ 0 → once_set n ≡ 0
once_set_zero n e = ap once_set e

pub once_set_some : (n : ℕ) → 0 < n → once_set n ≡ 1
once_set_some n h = grind (arith, nat_tests)
