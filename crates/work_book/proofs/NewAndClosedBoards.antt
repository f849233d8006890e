-- The first state of a board keeps the rule, and what its last state shows of the seat that closes it.
use Rattle.std.proofs.Common.{◌≡◌, ◌==◌, ℕ, zero, suc, ◌+◌, ◌-◌, ◌<◌, ◌≤◌, List, [], ◌∷◌, Bool, true, slice_index}
use Rattle.std.proofs.Common.{nat_lt, if◌then◌else◌, replicate, true≢false, refl, sym, ap, ◌∙◌, subst, zero-add, arith}
use Rattle.std.proofs.Common.{not, ◌*◌, mul-le-mul_left}
use Rattle.std.specs.List.{All}
use Rattle.std.specs.Slots.{slots_items}
use Rattle.std.proofs.lemmas.Bool.Decides.{nat_tests}
use Rattle.std.proofs.lemmas.List.{length-replicate}
use Rattle.std.proofs.lemmas.Bool.{ltb-true, lt-ltb}
use mathlib.Core.Option.{some, some-ne-none, some-injective}
use lib.ListN.{get_elem?}
use Rattle.atomic_table.specs.Table.{State, opening, Final, Seen}
use Rattle.work_book.specs.Book.{is_marked, job_among}
use Rattle.work_book.specs.Laws.{AreDrawnOnce, AreKeptOnce}
use Rattle.work_book.specs.Views.{first_view, share_of}
use Rattle.work_book.specs.Shown.{mark_of, next_of, shown}
use Rattle.work_book.specs.Rule.{IsKept, Fits, MarksOwn}
use Rattle.work_book.specs.Board.{Closes, AreSettledAsDrawn}
use Rattle.work_book.specs.declared.rule.View.{View}
use Rattle.work_book.specs.declared.rule.Extent.{Extent}
use Rattle.work_book.specs.declared.shared.Closed.{Closed}
use Rattle.work_book.proofs.SumsOverViews.{sum_at, sum_one}
use Rattle.work_book.proofs.RuleAsSums.{Held, held_of, kept_of, limit_of, draws_of, keeps_of, times, once_below}
use Rattle.work_book.proofs.RuleAsSums.{once_set, once_below_at, marked_shown, own_none, all_found, all_counted}

zero_at : (n i : ℕ) → slice_index (replicate n 0) i ≡ 0
zero_at zero i = refl
zero_at (suc n) zero = refl
zero_at (suc n) (suc i) = zero_at n i

no_number : (x : ℕ) → 0 ≡ once_below x 0
no_number x = grind (arith, nat_tests)

pub opens : (k : Extent) → limit_of k ≤ 8388480 →
    IsKept k (opening (replicate (k.jobs + 1) 0) [] (first_view (limit_of k)))
opens k few =
    let ws : List ℕ = replicate (k.jobs + 1) 0 in
    let none_drawn : slice_index ws 0 ≡ 0 = zero_at (k.jobs + 1) 0 in
    let next : 0 ≡ next_of (limit_of k) ws = omega arith in
    kept_of k (opening ws [] (first_view (limit_of k))) record {
      wide = length-replicate (k.jobs + 1) 0;
      drawn = λ x. no_number x ∙ ap (once_below x) next;
      kept = λ j. sym (ap once_set (zero_at (k.jobs + 1) (j + 1)));
      numbers = λ j some_mark. absurd (let a = zero_at (k.jobs + 1) (j + 1) in omega arith);
      shares = refl;
      room = omega arith;
      few = few;
      fits = first_fits ws;
      own = first_own ws;
    }
  where
    first_fits : (ws : List ℕ) (i : ℕ) (v : View) → get_elem? (first_view (limit_of k) ∷ []) i ≡ some v →
        Fits (limit_of k) ws v
    first_fits ws zero v e = subst (Fits (limit_of k) ws) (some-injective _ v e) record {
      limited = λ p. refl;
      told = λ t. absurd (true≢false (sym t));
      empty = λ p. absurd (omega arith);
      known = λ j p. absurd (true≢false (sym p));
    }
    first_fits ws (suc i) v e = absurd (some-ne-none v (sym e))

    first_own : (ws : List ℕ) (i : ℕ) (v : View) → get_elem? (first_view (limit_of k) ∷ []) i ≡ some v →
        MarksOwn k.jobs ws v
    first_own ws zero v e = subst (MarksOwn k.jobs ws) (some-injective _ v e)
        (own_none k.jobs ws (first_view (limit_of k)) refl refl)
    first_own ws (suc i) v e = absurd (some-ne-none v (sym e))

-- each settled job of the book that is shown was settled under a number that was drawn for it
as_drawn : (k : Extent) (s : State (Unit {0}) View) (vs : List View) → Held k s → AreSettledAsDrawn (shown k s.words vs)
as_drawn k s vs h job marked =
    let some_mark : 0 < mark_of s.words job = ltb-true 0 _ (sym (marked_shown k s.words vs job) ∙ marked) in
    let a = h.numbers job some_mark in
    (mark_of s.words job - 1, (let b = a.0 in omega arith), a.1)

closes_at : (c : Closed) (id : ℕ) (v : View) (s : State (Unit {0}) View) →
    Held (record { jobs = c.jobs; tries = c.tries }) s → s.words ≡ slots_items c.words.words →
    get_elem? s.views id ≡ some v → Closes v c
closes_at c id v s h same at =
    let k : Extent = record { jobs = c.jobs; tries = c.tries } in
    let mine = h.fits id v at in
    record {
      drawn = subst (λ (ws : List ℕ). All (λ n. n < next_of (limit_of k) ws) v.drawn) same
          (all_counted (λ n. n < next_of (limit_of k) s.words) v.drawn
          (λ x there. let a = sum_at (draws_of x) s.views id v at in let b = h.drawn x in
          once_below_at x (next_of (limit_of k) s.words) (omega arith)));
      told = λ t. subst (λ (ws : List ℕ). next_of (limit_of k) ws ≡ limit_of k) same (let a = mine.told t in
          omega arith);
      known = subst (λ (ws : List ℕ). All (λ job. is_marked (shown k ws (v ∷ [])) job ≡ true) v.known) same
          (all_found (λ job. is_marked (shown k s.words (v ∷ [])) job ≡ true) v.known
          (λ x found. marked_shown k s.words (v ∷ []) x ∙ lt-ltb 0 _ (mine.known x found)));
      numbers = subst (λ (ws : List ℕ). AreSettledAsDrawn (shown k ws (v ∷ []))) same (as_drawn k s (v ∷ []) h);
      jobs_of = (h.own id v at).jobs_of;
      marks = subst (λ (ws : List ℕ). All (λ n. mark_of ws (job_among k.jobs n) ≡ n + 1) v.under) same
          (all_found (λ n. mark_of s.words (job_among k.jobs n) ≡ n + 1) v.under (h.own id v at).marks);
      all_drawn = λ all. subst (λ (ws : List ℕ). AreDrawnOnce (shown k ws (v ∷ []))) same
          (λ x.
          let a = sum_one (draws_of x) share_of s.views id v at (let b = h.shares in
          omega arith) (λ j w e none. ap (times x) ((h.fits j w e).empty none).0) in
          zero-add (draws_of x v) ∙ sym a ∙ h.drawn x);
      all_kept = λ all. subst (λ (ws : List ℕ). AreKeptOnce (shown k ws (v ∷ []))) same
          (λ j.
          let a = sum_one (keeps_of j) share_of s.views id v at (let b = h.shares in
          omega arith) (λ i w e none. ap (times j) ((h.fits i w e).empty none).1) in
          zero-add (keeps_of j v) ∙ sym a ∙ h.kept j
          ∙ ap (λ (b : Bool). if b then 1 else 0) (sym (marked_shown k s.words (v ∷ []) j)));
    }

pub closes : (k : Extent) (c : Closed) (id : ℕ) (v : View) (xs : List (Unit {0})) → k.jobs ≡ c.jobs →
    k.tries ≡ c.tries → Final (Seen (IsKept k) id v) (slots_items c.words.words) xs → Closes v c
closes k c id v xs jobs tries f =
    let same : k ≡ record { jobs = c.jobs; tries = c.tries } = λ i. record { jobs = jobs i; tries = tries i } in
    closes_at c id v f.0 (subst (λ (x : Extent). Held x f.0) same (held_of k f.0 f.1.0)) f.2 f.1.1

-- there are at most 8 tries of at most 1,048,560 jobs
pub few_numbers : (k : Extent) → k.jobs ≤ 1048560 → k.tries ≤ 8 → limit_of k ≤ 8388480
few_numbers k jobs tries = let a : k.jobs * k.tries ≤ k.jobs * 8 = mul-le-mul_left k.jobs tries in omega arith

value_at : (ws : List ℕ) (i a : ℕ) → get_elem? ws i ≡ some a → slice_index ws i ≡ a
value_at [] i a e = absurd (some-ne-none a (sym e))
value_at (x ∷ xs) zero a e = some-injective x a e
value_at (x ∷ xs) (suc i) a e = value_at xs i a e

-- a word that is found not to be 0 is that of a marked job
pub mark_told : (k : Extent) (ws : List ℕ) (vs : List View) (job a : ℕ) → get_elem? ws (job + 1) ≡ some a →
    not (a == 0) ≡ is_marked (shown k ws vs) job
mark_told k ws vs job a e = not_zero a ∙ ap (λ (n : ℕ). nat_lt 0 n) (sym (value_at ws (job + 1) a e))
    ∙ sym (marked_shown k ws vs job)
  where
    not_zero : (n : ℕ) → not (n == 0) ≡ nat_lt 0 n
    not_zero n = grind (arith, nat_tests)
