-- A split and a join keep the rule.
use Rattle.std.proofs.Common.{◌≡◌, ◌≢◌, ◌⊎◌, ℕ, ◌+◌, ◌-◌, ◌==◌, ◌≤◌, List, [], ◌∷◌, ◌++◌, Bool, true, false, ◌||◌, set}
use Rattle.std.proofs.Common.{if◌then◌else◌, true≢false, refl, sym, ◌∙◌, subst, ⊎_elim, arith}
use Rattle.std.proofs.lemmas.List.{map-append}
use Rattle.std.proofs.lemmas.List.Sums.{sum_by_push}
use Rattle.std.proofs.lemmas.List.Folds.{list_any-append}
use Rattle.std.proofs.lemmas.Bool.{or_cases}
use mathlib.Core.Option.{some}
use lib.ListN.{get_elem?}
use Rattle.atomic_table.specs.Table.{State, Splits, Joins}
use Rattle.atomic_table.proofs.Lists.{at_set, at_snoc}
use Rattle.work_book.specs.Book.{job_among}
use Rattle.work_book.specs.Views.{knows, settled_under, spent, less_one, split_off, merged, share_of, untold}
use Rattle.work_book.specs.Rule.{IsKept, Fits, MarksOwn}
use Rattle.work_book.specs.declared.rule.View.{View}
use Rattle.work_book.specs.declared.rule.Extent.{Extent}
use Rattle.work_book.proofs.SumsOverViews.{sum_set}
use Rattle.work_book.proofs.RuleAsSums.{Held, held_of, kept_of, limit_of, draws_of, keeps_of, times_append, same_words}
use Rattle.work_book.proofs.RuleAsSums.{fits_set, same_marks, own_on, own_set, own_none}

untold_split : (b : Bool) (s : ℕ) → 2 ≤ s → (if b then 0 else (s - 1)) + (if b then 0 else 1) ≡ (if b then 0 else s)
untold_split true s h = refl
untold_split false s h = omega arith

untold_join : (a b : Bool) (s t : ℕ) → (if (a || b) then 0 else (s + t)) ≤ (if a then 0 else s) + (if b then 0 else t)
untold_join true b s t = omega arith
untold_join false true s t = omega arith
untold_join false false s t = omega arith

held_split : (k : Extent) (id : ℕ) (v : View) → 2 ≤ v.share → (s : State (Unit {0}) View) → Held k s →
    get_elem? s.views id ≡ some v
    → Held k record { words = s.words; homes = s.homes; views = set s.views id (less_one v) ++ split_off v ∷ [] }
held_split k id v two s h at =
    let vs = set s.views id (less_one v) in
    let mine = h.fits id v at in
    record {
      wide = h.wide;
      drawn = λ x. let a = sum_set (draws_of x) s.views id v (less_one v) at in
          let b = sum_by_push (draws_of x) vs (split_off v) in let c = h.drawn x in omega arith;
      kept = λ j. let a = sum_set (keeps_of j) s.views id v (less_one v) at in
          let b = sum_by_push (keeps_of j) vs (split_off v) in let c = h.kept j in omega arith;
      numbers = h.numbers;
      shares = let a = sum_set share_of s.views id v (less_one v) at in let b = sum_by_push share_of vs (split_off v) in
          let c = h.shares in omega arith;
      room =
          let a = sum_set untold s.views id v (less_one v) at in
          let b = sum_by_push untold vs (split_off v) in
          let c = untold_split v.told v.share two in
          let d = h.room in
          omega arith;
      few = h.few;
      fits = λ i u e.
          ⊎_elim
          (λ (was : get_elem? vs i ≡ some u).
          fits_set (limit_of k) s.words s.words s.views id (less_one v) (same_words s.words) h.fits
          record {
            limited = λ p. mine.limited (omega arith);
            told = mine.told;
            empty = λ p. absurd (omega arith);
            known = mine.known;
          } i u was)
          (λ (same : split_off v ≡ u).
          subst (Fits (limit_of k) s.words) same record {
            limited = λ p. mine.limited (omega arith);
            told = mine.told;
            empty = λ p. (refl, refl);
            known = mine.known;
          })
          (at_snoc vs (split_off v) u i e);
      own = λ i u e.
          ⊎_elim
          (λ (was : get_elem? vs i ≡ some u).
          own_set k.jobs s.words s.words s.views id (less_one v) (same_marks s.words) h.own
          (own_on k.jobs s.words s.words v (less_one v) (same_marks s.words) refl refl (h.own id v at)) i u was)
          (λ (same : split_off v ≡ u). subst (MarksOwn k.jobs s.words) same
          (own_none k.jobs s.words (split_off v) refl refl))
          (at_snoc vs (split_off v) u i e);
    }

pub splits : (k : Extent) (id : ℕ) (v : View) → 2 ≤ v.share → Splits (IsKept k) id v (less_one v) (split_off v)
splits k id v two s h at = kept_of k _ (held_split k id v two s (held_of k s h) at)

own_both : (jobs : ℕ) (words : List ℕ) (v w : View) → MarksOwn jobs words v → MarksOwn jobs words w →
    MarksOwn jobs words (merged v w)
own_both jobs words v w a b = record {
  jobs_of = (λ i. a.jobs_of i ++ b.jobs_of i) ∙ sym (map-append (job_among jobs) v.under w.under);
  marks = λ n p. ⊎_elim (a.marks n) (b.marks n)
      (or_cases (settled_under v n) (settled_under w n) (sym (list_any-append (λ x. x == n) v.under w.under)
      ∙ p));
}

held_join : (k : Extent) (id : ℕ) (v : View) (other : ℕ) (w : View) → 1 ≤ v.share → (s : State (Unit {0}) View) →
    Held k s → get_elem? s.views id ≡ some v → ¬ (other ≡ id)
    → get_elem? (set s.views id (merged v w)) other ≡ some w →
    Held k record { words = s.words; homes = s.homes; views = set (set s.views id (merged v w)) other spent }
held_join k id v other w one s h at apart there =
    let both = merged v w in
    let vs = set s.views id both in
    let theirs : get_elem? s.views other ≡ some w =
    ⊎_elim (λ (x : (other ≡ id) × (both ≡ w)). absurd (apart x.0))
    (λ (x : (other ≢ id) × (get_elem? s.views other ≡ some w)). x.1) (at_set s.views id other both w there) in
    let mine = h.fits id v at in
    let yours = h.fits other w theirs in
    record {
      wide = h.wide;
      drawn = λ x.
          let a = sum_set (draws_of x) s.views id v both at in
          let b = sum_set (draws_of x) vs other w spent there in
          let c = times_append x v.drawn w.drawn in
          let d = h.drawn x in
          omega arith;
      kept = λ j.
          let a = sum_set (keeps_of j) s.views id v both at in
          let b = sum_set (keeps_of j) vs other w spent there in
          let c = times_append j v.kept w.kept in
          let d = h.kept j in
          omega arith;
      numbers = h.numbers;
      shares = let a = sum_set share_of s.views id v both at in let b = sum_set share_of vs other w spent there in
          let d = h.shares in omega arith;
      room =
          let a = sum_set untold s.views id v both at in
          let b = sum_set untold vs other w spent there in
          let c = untold_join v.told w.told v.share w.share in
          let d = h.room in
          omega arith;
      few = h.few;
      fits =
          fits_set (limit_of k) s.words s.words vs other spent (same_words s.words)
          (fits_set (limit_of k) s.words s.words s.views id both (same_words s.words) h.fits
          record {
            limited = λ p. mine.limited (omega arith);
            told = λ t. ⊎_elim mine.told yours.told (or_cases v.told w.told t);
            empty = λ p. absurd (omega arith);
            known = λ j p. ⊎_elim (mine.known j) (yours.known j)
                (or_cases (knows v j) (knows w j) (sym (list_any-append _ v.known w.known) ∙ p));
          })
          record {
            limited = λ p. absurd (omega arith);
            told = λ t. absurd (true≢false (sym t));
            empty = λ p. (refl, refl);
            known = λ j p. absurd (true≢false (sym p));
          };
      own =
          own_set k.jobs s.words s.words vs other spent (same_marks s.words)
          (own_set k.jobs s.words s.words s.views id both (same_marks s.words) h.own
          (own_both k.jobs s.words v w (h.own id v at) (h.own other w theirs)))
          (own_none k.jobs s.words spent refl refl);
    }

pub joins : (k : Extent) (id : ℕ) (v : View) (other : ℕ) (w : View) → 1 ≤ v.share →
    Joins (IsKept k) id v other w (merged v w) spent
joins k id v other w one s h at apart there =
    kept_of k _ (held_join k id v other w one s (held_of k s h) at apart there)
