-- What every step keeps: each number below the next one drawn once, each settled job kept once.
use Rattle.std.proofs.Common.{◌≡◌, ◌<◌, ◌≤◌, ◌+◌, ◌*◌, ◌==◌, ◌++◌, ◌∷◌, [], ℕ, zero, suc, List, Bool, true, false}
use Rattle.std.proofs.Common.{Option, Some, None, length, get_or, arith, sym, ap, ◌∙◌, refl, subst, replicate}
use Rattle.std.proofs.Common.{unwrap_or, not, add-zero, zero-add, count_by, nat_lt, inl, inr, if◌then◌else◌}
use Rattle.std.proofs.Math.ListN.{set}
use Rattle.std.proofs.Math.Nat.{mod-lt}
use Rattle.std.specs.List.{slice_get, sum_by, list_any}
use Rattle.std.specs.Option.{option_map_or}
use Rattle.std.proofs.lemmas.List.{length-replicate, length-set, get_or-set_same, get_or-set_other}
use Rattle.std.proofs.lemmas.Bool.{eq-eqb, ne_eqb, and_parts, cases_eq, ltb-true, not-true}
use Rattle.std.proofs.lemmas.Bool.Decides.{nat_tests}
use Rattle.std.proofs.lemmas.List.Sums.{sum_by-set, sum_by-append}
use Rattle.std.proofs.lemmas.Option.{slice_get_within, get_or_from_slice_get, unwrap_or-slice_get}
use Rattle.std.proofs.lemmas.List.Folds.{sum_by-replicate, Any-from_list_any}
use Rattle.work_book.specs.Seat.{SeatState, new_seat, has_drawn, with_drawn, with_kept, as_lost}
use Rattle.work_book.specs.Book.{BookState, new_book, acts, seat_has, job_of, is_marked, on_seat}
use Rattle.work_book.specs.Steps.{after, run_of}
use Rattle.work_book.specs.Laws.{drawn_in, kept_in, AreDrawnOnce, AreKeptOnce, reached}
use Rattle.work_book.specs.declared.steps.Step.{Step}
use Rattle.work_book.specs.declared.steps.Step.TheVariants.{Draw, Look, Settle, Loss}
use Rattle.work_book.proofs.DrawnBelow.{first_factor}

pub record IsFair (book : BookState) : Type 0 where
  pub marks : length book.marks ≡ book.jobs
  pub next : book.next ≤ book.jobs * book.tries
  pub drawn : AreDrawnOnce book
  pub kept : AreKeptOnce book

abbrev one_if : Bool → ℕ
one_if b = if b then 1 else 0

-- a change of a seat that acts, by which its count of something rises by d, raises the sum over all seats by d
seat_change : (count : SeatState → ℕ) (book : BookState) (seat d : ℕ) (f : SeatState → SeatState) →
    ((s : SeatState) → count (f s) ≡ count s + d) → acts book seat ≡ true
    → sum_by count (on_seat book seat f).seats ≡ sum_by count book.seats + d
seat_change count book seat d f more acting = go (slice_get book.seats seat) refl acting
  where
    go : (o : Option SeatState) → slice_get book.seats seat ≡ o →
        option_map_or (λ (s : SeatState). not s.lost) o false ≡ true →
        sum_by count (on_seat book seat f).seats ≡ sum_by count book.seats + d
    go None e h = cc
    go (Some s) e h =
        let total = sum_by-set count book.seats seat (f s) s (slice_get_within book.seats seat s e) in
        let at = ap count (get_or_from_slice_get book.seats seat s s e) in
        let k = more s in
        rw e (omega arith)

-- and one by which it stays leaves the sum
same_seats : (count : SeatState → ℕ) (book : BookState) (seat : ℕ) (f : SeatState → SeatState) →
    ((s : SeatState) → count (f s) ≡ count s) → acts book seat ≡ true
    → sum_by count (on_seat book seat f).seats ≡ sum_by count book.seats
same_seats count book seat f same acting =
    seat_change count book seat 0 f (λ s. same s ∙ sym (add-zero _)) acting ∙ add-zero _

-- one more number counts if it is the one
pushed : (x n : ℕ) (xs : List ℕ) → count_by (λ y. y == n) (xs ++ x ∷ []) ≡ count_by (λ y. y == n) xs + one_if (x == n)
pushed x n xs =
    let all = sum_by-append (λ y. one_if (y == n)) xs (x ∷ []) in
    let one : sum_by (λ y. one_if (y == n)) (x ∷ []) ≡ one_if (x == n) = zero-add (one_if (x == n)) in
    all ∙ ap (λ m. sum_by (λ y. one_if (y == n)) xs + m) one

next_one : (n next : ℕ) → one_if (nat_lt n next) + one_if (next == n) ≡ one_if (nat_lt n (next + 1))
next_one n next = grind (arith, nat_tests)

drawn : (book : BookState) (seat : ℕ) (b : Bool) → IsFair book →
    (b ≡ true → (acts book seat ≡ true) × (book.next < book.jobs * book.tries))
    → IsFair (if b then record (on_seat book seat (with_drawn book.next)) { next = book.next + 1 } else book)
drawn book seat false fair h = fair
drawn book seat true fair h = record {
  marks = fair.marks;
  next = let low = (h refl).1 in omega arith;
  drawn = λ n. seat_change (drawn_in n) book seat (one_if (book.next == n)) (with_drawn book.next)
      (λ s. pushed book.next n s.drawn) (h refl).0
      ∙ ap (λ m. m + one_if (book.next == n)) (fair.drawn n)
      ∙ next_one n book.next;
  kept = λ job. same_seats (kept_in job) book seat (with_drawn book.next) (λ s. refl) (h refl).0 ∙ fair.kept job;
}

lost : (book : BookState) (seat : ℕ) (b : Bool) → IsFair book → (b ≡ true → acts book seat ≡ true) →
    IsFair (if b then on_seat book seat as_lost else book)
lost book seat false fair h = fair
lost book seat true fair h = record {
  marks = fair.marks;
  next = fair.next;
  drawn = λ n. same_seats (drawn_in n) book seat as_lost (λ s. refl) (h refl) ∙ fair.drawn n;
  kept = λ job. same_seats (kept_in job) book seat as_lost (λ s. refl) (h refl) ∙ fair.kept job;
}

-- a mark that is set counts if it is the job's own
mark_set : (book : BookState) (k job : ℕ) → k < length book.marks → is_marked book k ≡ false
    → one_if (unwrap_or (slice_get (set book.marks k true) job) false) ≡ one_if (is_marked book job) + one_if (k == job)
mark_set book k job here unset = elim (cases_eq k job) [
  | inl e ↦ (let a : unwrap_or (slice_get (set book.marks k true) job) false ≡ true =
      unwrap_or-slice_get (set book.marks k true) job false
      ∙ ap (λ q. get_or (set book.marks k true) q false) (sym e) ∙ get_or-set_same book.marks k true false here in
      let b : is_marked book job ≡ false = ap (is_marked book) (sym e) ∙ unset in
      let t : (k == job) ≡ true = eq-eqb k job e in rw (a, b, t) refl)
  | inr n ↦ (let a : unwrap_or (slice_get (set book.marks k true) job) false ≡ is_marked book job =
      unwrap_or-slice_get (set book.marks k true) job false
      ∙ get_or-set_other book.marks k job true false (λ e. n (sym e))
      ∙ sym (unwrap_or-slice_get book.marks job false) in
      let t : (k == job) ≡ false = ne_eqb k job n in rw (a, t) (sym (add-zero _)))
]

settled : (book : BookState) (seat k : ℕ) (b : Bool) → IsFair book →
    (b ≡ true → (k < book.jobs) × (acts book seat ≡ true) × (is_marked book k ≡ false))
    → IsFair (if b then record (on_seat book seat (with_kept k)) { marks = set book.marks k true } else book)
settled book seat k false fair h = fair
settled book seat k true fair h = record {
  marks = length-set book.marks k true ∙ fair.marks;
  next = fair.next;
  drawn = λ n. same_seats (drawn_in n) book seat (with_kept k) (λ s. refl) (h refl).1 ∙ fair.drawn n;
  kept = λ job. seat_change (kept_in job) book seat (one_if (k == job)) (with_kept k) (λ s. pushed k job s.kept)
      (h refl).1
      ∙ ap (λ n. n + one_if (k == job)) (fair.kept job)
      ∙ sym (mark_set book k job (subst (λ (n : ℕ). k < n) (sym fair.marks) (h refl).0) (h refl).2);
}

-- a list with a number in it counts it
pub counted : (xs : List ℕ) (n : ℕ) → list_any (λ x. x == n) xs ≡ true → 0 < count_by (λ x. x == n) xs
counted xs n h =
    let some = Any-from_list_any (λ x. x == n) xs h in
    let total = sum_by-set (λ x. one_if (x == n)) xs some.0 (n + 1) some.1 some.2 in
    let here : (some.1 == n) ≡ true = some.4 in
    let at : get_or xs some.0 some.1 ≡ some.1 = some.3 in
    let one : one_if (get_or xs some.0 some.1 == n) ≡ 1 = ap (λ x. one_if (x == n)) at ∙ ap one_if here in
    let other = off n in
    omega arith
  where
    off : (n : ℕ) → one_if ((n + 1) == n) ≡ 0
    off n = grind (arith, nat_tests)

-- a number that a seat drew is below the next one
low : (book : BookState) (seat number : ℕ) → IsFair book → seat_has book seat number ≡ true → number < book.next
low book seat number fair h = go (slice_get book.seats seat) refl h
  where
    below : (n next : ℕ) → 0 < one_if (nat_lt n next) → n < next
    below n next h = grind (arith, nat_tests)

    go : (o : Option SeatState) → slice_get book.seats seat ≡ o → option_map_or (has_drawn number) o false ≡ true →
        number < book.next
    go None e h = cc
    go (Some s) e h =
        let total = sum_by-set (drawn_in number) book.seats seat new_seat s (slice_get_within book.seats seat s e) in
        let at = ap (drawn_in number) (get_or_from_slice_get book.seats seat s s e) in
        let some = counted s.drawn number h in
        let all = fair.drawn number in
        below number book.next (omega arith)

pub step_fair : (book : BookState) (step : Step) → IsFair book → IsFair (after book step)
step_fair book (Draw seat) fair = drawn book seat _ fair (λ h. let p = and_parts _ _ h in (p.0, ltb-true _ _ p.1))
step_fair book (Look seat job) fair = fair
step_fair book (Settle seat number) fair = settled book seat (job_of book number) _ fair (λ h.
    let p = and_parts _ _ h in
    let q = and_parts _ _ p.1 in
    let l = low book seat number fair q.0 in let most = fair.next in
    (mod-lt number (first_factor book.jobs book.tries number (omega arith)), p.0, not-true _ q.1))
step_fair book (Loss seat) fair = lost book seat _ fair (λ h. h)

pub run_fair : (steps : List Step) (book : BookState) → IsFair book → IsFair (run_of book steps)
run_fair [] book fair = fair
run_fair (step ∷ steps) book fair = run_fair steps (after book step) (step_fair book step fair)

pub new_fair : (jobs tries seats : ℕ) → IsFair (new_book jobs tries seats)
new_fair jobs tries seats =
    let start : BookState = new_book jobs tries seats in
    record {
      marks = length-replicate jobs false;
      next = omega arith;
      drawn = λ n. sum_by-replicate (drawn_in n) seats new_seat ∙ none seats ∙ sym (no_number n);
      kept = λ j. sum_by-replicate (kept_in j) seats new_seat ∙ none seats
          ∙ ap one_if (sym (unwrap_or-slice_get (replicate jobs false) j false ∙ all_open jobs j));
    }
  where
    none : (n : ℕ) → n * 0 ≡ 0
    none n = omega arith

    no_number : (n : ℕ) → one_if (nat_lt n 0) ≡ 0
    no_number n = grind (arith, nat_tests)

    all_open : (n j : ℕ) → get_or (replicate n false) j false ≡ false
    all_open zero j = refl
    all_open (suc n) zero = refl
    all_open (suc n) (suc j) = all_open n j

pub reached_fair : (jobs tries seats : ℕ) (steps : List Step) → IsFair (reached jobs tries seats steps)
reached_fair jobs tries seats steps = run_fair steps (new_book jobs tries seats) (new_fair jobs tries seats)
