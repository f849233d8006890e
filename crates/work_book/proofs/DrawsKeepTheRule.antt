-- A draw keeps the rule.
use Rattle.std.proofs.Common.{◌≡◌, ℕ, zero, suc, ◌+◌, ◌-◌, ◌%◌, ◌^◌, ◌<◌, ◌≤◌, min, List, [], ◌∷◌, Bool, true, false}
use Rattle.std.proofs.Common.{length, set, slice_index, if◌then◌else◌, true≢false, refl, sym, ap, ◌∙◌, subst, arith}
use Rattle.std.specs.List.{sum_by, All}
use Rattle.std.proofs.Math.Nat.{mod-eq_of_lt}
use Rattle.std.proofs.Math.Decide.{dec_lt}
use Rattle.std.proofs.lemmas.Bool.Decides.{nat_tests}
use Rattle.std.proofs.lemmas.List.{get_or-set_same, get_or-set_other, length-set}
use mathlib.Core.Option.{some, none}
use lib.ListN.{get_elem?}
use Rattle.atomic_table.specs.Table.{State, Act, keeps, step, stepped, Allows, Valid, carried_after}
use Rattle.work_book.specs.Views.{drew, told_nothing, share_of, untold}
use Rattle.work_book.specs.Shown.{mark_of, next_of}
use Rattle.work_book.specs.Rule.{IsKept, Fits}
use Rattle.work_book.specs.Moves.{Mine, Draws}
use Rattle.work_book.specs.declared.rule.View.{View}
use Rattle.work_book.specs.declared.rule.Extent.{Extent}
use Rattle.work_book.proofs.SumsOverViews.{sum_set, sum_at, sum_le}
use Rattle.work_book.proofs.RuleAsSums.{Held, held_of, kept_of, limit_of, draws_of, keeps_of, times, times_append}
use Rattle.work_book.proofs.RuleAsSums.{once_below, once_set, once_below_at, Grows, fits_set, own_on, own_set}
use Rattle.work_book.proofs.RuleAsSums.{all_counted}

-- one number more is drawn
once_more : (x n : ℕ) → once_below x n + times x (n ∷ []) ≡ once_below x (n + 1)
once_more x n = grind (arith, nat_tests)

untold_le : (v : View) → untold v ≤ share_of v
untold_le v = go v.told v.share
  where
    go : (b : Bool) (s : ℕ) → (if b then 0 else s) ≤ s
    go true s = omega arith
    go false s = omega arith

untold_is : (v : View) → v.told ≡ false → untold v ≡ share_of v
untold_is v e = ap (λ (b : Bool). if b then 0 else v.share) e

-- the words when the first one goes up to m
module _ (ws : List ℕ) (m : ℕ) (some_words : 0 < length ws) where
  number_now : slice_index (set ws 0 m) 0 ≡ m
  number_now = get_or-set_same ws 0 m 0 some_words

  mark_same : (j : ℕ) → mark_of (set ws 0 m) j ≡ mark_of ws j
  mark_same j = get_or-set_other ws 0 (j + 1) m 0 (λ e. omega arith)

  number_grows : slice_index ws 0 ≤ m → Grows ws (set ws 0 m)
  number_grows le zero = let a = number_now in omega arith
  number_grows le (suc i) = let a = get_or-set_other ws 0 (suc i) m 0 (λ e. omega arith) in omega arith

-- a step of the first word to n + 1, n being what it was, after which the view is w
draw_keeps : (k : Extent) (id : ℕ) (v w : View) (s : State (Unit {0}) View) → Held k s → get_elem? s.views id ≡ some v
    → ((x : ℕ) → times x w.drawn + once_below x (next_of (limit_of k) s.words)
    ≡ times x v.drawn + once_below x (min (slice_index s.words 0 + 1) (limit_of k)))
    → w.kept ≡ v.kept → w.under ≡ v.under → w.share ≡ v.share →
    slice_index s.words 0 + 1 + sum_by untold (set s.views id w) ≤ limit_of k + 65536
    → Fits (limit_of k) (set s.words 0 (slice_index s.words 0 + 1)) w
    → IsKept k record { words = set s.words 0 (slice_index s.words 0 + 1); homes = s.homes; views = set s.views id w }
draw_keeps k id v w s h at numbers keeps_same under_same shares_same roomy fit =
    let n : ℕ = slice_index s.words 0 in
    let wide : 0 < length s.words = let a = h.wide in omega arith in
    let now : slice_index (set s.words 0 (n + 1)) 0 ≡ n + 1 = number_now s.words (n + 1) wide in
    let next : next_of (limit_of k) (set s.words 0 (n + 1)) ≡ min (n + 1) (limit_of k) =
    ap (λ (z : ℕ). min z (limit_of k)) now in
    kept_of k _ (record {
      wide = length-set s.words 0 (n + 1) ∙ h.wide;
      drawn = λ x.
          let a = sum_set (draws_of x) s.views id v w at in
          let b = numbers x in
          let c = h.drawn x in
          let d = ap (once_below x) next in
          omega arith;
      kept = λ j.
          let a = sum_set (keeps_of j) s.views id v w at in
          let b : times j w.kept ≡ times j v.kept = ap (times j) keeps_same in
          let c = h.kept j in
          let d : once_set (mark_of (set s.words 0 (n + 1)) j) ≡ once_set (mark_of s.words j) =
          ap once_set (mark_same s.words (n + 1) wide j) in
          omega arith;
      numbers = λ j some_mark.
          let same = mark_same s.words (n + 1) wide j in
          let was = h.numbers j (omega arith) in (
            (let a = was.0 in omega arith),
            ap (λ (z : ℕ). (z - 1) % k.jobs) same ∙ was.1,
          );
      shares = let a = sum_set share_of s.views id v w at in let b = h.shares in omega arith;
      room = omega (arith, now);
      few = h.few;
      fits = fits_set (limit_of k) s.words (set s.words 0 (n + 1)) s.views id w
          (number_grows s.words (n + 1) wide (omega arith)) h.fits fit;
      own =
          own_set k.jobs s.words (set s.words 0 (n + 1)) s.views id w (λ j p. mark_same s.words (n + 1) wide j) h.own
          (own_on k.jobs s.words (set s.words 0 (n + 1)) v w (λ j p. mark_same s.words (n + 1) wide j) keeps_same
          under_same (h.own id v at));
    })

no_wrap : (k : Extent) (s : State (Unit {0}) View) → Held k s →
    (slice_index s.words 0 + 1) % 2 ^ 64 ≡ slice_index s.words 0 + 1
no_wrap k s h = let a = h.room in let b = h.few in let lt : slice_index s.words 0 + 1 < 2 ^ 64 = omega arith in
    mod-eq_of_lt lt

module _ (k : Extent) (slots id : ℕ) (me : Mine) (new : me.0.told ≡ false) (live : 1
    ≤ me.0.share) (of_board : me.0.limit ≡ limit_of k) where
  draws_low : (s : State (Unit {0}) View) → Held k s → get_elem? s.views id ≡ some me.0 →
      slice_index s.words 0 < limit_of k
      → IsKept k record {
        words = set s.words 0 (slice_index s.words 0 + 1);
        homes = s.homes;
        views = set s.views id (drew (slice_index s.words 0) me.0);
      }
  draws_low s h at low =
      let n : ℕ = slice_index s.words 0 in
      let v = me.0 in
      let w = drew n v in
      let mine = h.fits id v at in
      let wide : 0 < length s.words = let a = h.wide in omega arith in
      draw_keeps k id v w s h at
      (λ x.
      let a = times_append x v.drawn (n ∷ []) in
      let b = once_more x n in
      let c : once_below x (min n (limit_of k)) ≡ once_below x n = let e : min n (limit_of k) ≡ n = omega arith in
      ap (λ (z : ℕ). once_below x z) e in
      let d : once_below x (min (n + 1) (limit_of k)) ≡ once_below x (n + 1) =
      let e : min (n + 1) (limit_of k) ≡ n + 1 = omega arith in ap (λ (z : ℕ). once_below x z) e in
      omega arith)
      refl
      refl
      refl
      (let a = sum_set untold s.views id v w at in let b = sum_le untold share_of untold_le s.views in
      let c = h.shares in omega arith)
      record {
        limited = λ p. of_board;
        told = λ t. absurd (true≢false (sym t ∙ new));
        empty = λ p. absurd (omega arith);
        known = λ j p. let a = mine.known j p in let b = mark_same s.words (n + 1) wide j in omega arith;
      }

  draws_high : (s : State (Unit {0}) View) → Held k s → get_elem? s.views id ≡ some me.0 →
      limit_of k ≤ slice_index s.words 0
      → IsKept k record {
        words = set s.words 0 (slice_index s.words 0 + 1);
        homes = s.homes;
        views = set s.views id (told_nothing me.0);
      }
  draws_high s h at high =
      let n : ℕ = slice_index s.words 0 in
      let v = me.0 in
      let w = told_nothing v in
      let mine = h.fits id v at in
      let wide : 0 < length s.words = let a = h.wide in omega arith in
      draw_keeps k id v w s h at
      (λ x.
      let c : once_below x (min n (limit_of k)) ≡ once_below x (min (n + 1) (limit_of k)) =
      let e : min n (limit_of k) ≡ min (n + 1) (limit_of k) = omega arith in ap (λ (z : ℕ). once_below x z) e in
      omega arith)
      refl
      refl
      refl
      (let a = sum_set untold s.views id v w at in let b = untold_is v new in let c = h.room in omega arith)
      record {
        limited = λ p. of_board;
        told = λ t. let a = number_now s.words (n + 1) wide in omega arith;
        empty = λ p. absurd (omega arith);
        known = λ j p. let a = mine.known j p in let b = mark_same s.words (n + 1) wide j in omega arith;
      }

  below : (s : State (Unit {0}) View) → Held k s → get_elem? s.views id ≡ some me.0 →
      slice_index s.words 0 < limit_of k → All (λ drawn. drawn < slice_index s.words 0) me.0.drawn
  below s h at low = all_counted (λ drawn. drawn < slice_index s.words 0) me.0.drawn
      (λ x there. let a = sum_at (draws_of x) s.views id me.0 at in let b = h.drawn x in
      let c = once_below_at x (next_of (limit_of k) s.words) (omega arith) in omega arith)

  pub draws : Allows (IsKept k) slots id me 0 (λ n. (n + 1) % 2 ^ 64) (Draws (step slots 0 1 0 none) me)
  draws s kept len at fit = let h = held_of k s kept in go h (dec_lt (slice_index s.words 0) (limit_of k))
    where
      go : Held k s → Dec (slice_index s.words 0 < limit_of k) →
          (w : View) × (a : Act (Unit {0})) × Valid s.homes me.1 a
          × IsKept k (stepped s 0 ((slice_index s.words 0 + 1) % 2 ^ 64) id me.1 w a)
          × Draws (step slots 0 1 0 none) me (slice_index s.words 0) (w, carried_after me.1 a)
      go h (yes low) = (
        drew (slice_index s.words 0) me.0,
        keeps,
        tt,
        subst (λ (z : ℕ). IsKept k record {
          words = set s.words 0 z;
          homes = s.homes;
          views = set s.views id (drew (slice_index s.words 0) me.0);
        }) (sym (no_wrap k s h))
            (draws_low s h at low),
        (refl, (λ p. (refl, below s h at low)), (λ p. absurd (omega arith))),
      )
      go h (no high) = (
        told_nothing me.0,
        keeps,
        tt,
        subst (λ (z : ℕ). IsKept k record {
          words = set s.words 0 z;
          homes = s.homes;
          views = set s.views id (told_nothing me.0);
        }) (sym (no_wrap k s h)) (draws_high s h at (omega arith)),
        (refl, (λ p. absurd (high (omega arith))), (λ p. refl)),
      )
