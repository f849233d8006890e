-- Law 2: positions with one label and one base are one run.
use Rattle.std.proofs.Common.{◌≡◌, ◌≢◌, ◌≤◌, ◌<◌, ◌+◌, ◌*◌, ◌-◌, ℕ, zero, suc, Bool, true, false, List, Option, Some}
use Rattle.std.proofs.Common.{ap, arith, refl, inl, inr, sym, subst, ◌∙◌, length, slice_index, slice_index_or}
use Rattle.std.proofs.lemmas.Bool.{cases_lt, cases_eq, both_ways, true_from_ne_false}
use Rattle.rounds.specs.Labels.{AreLabelDurations, IsDurationFrom}
use Rattle.label_cells.specs.Durations.{AreLabels}
use Rattle.label_cells.specs.Sums.{sum_to}
use Rattle.label_cells.specs.Runs.{IsRun, AreEnds}
use Rattle.label_cells.proofs.SumsOfPlaces.{sum_same}

-- how many minutes wait for positions before j
abbrev pub before : List ℕ → ℕ → ℕ
before searched zero = 0
before searched (suc j) = slice_index searched j + 1

-- the minutes from `was` on are left to a run that ends at position j or later
pub record IsLeft (searched : List ℕ) (ends : List Bool) (j was : ℕ) : Type 0 where
  pub low : was ≤ before searched j
  pub closed : (i : ℕ) → j ≡ i + 1 → slice_index_or ends i false ≡ true → was ≡ before searched j

-- of those minutes, those before position j have the durations of its label; the others are in runs
pub record AreBegun (labels bases searched : List ℕ) (first : ℕ) (ds : ℕ → Option ℕ) (j was : ℕ)
    (shortest span : ℕ → ℕ) (runs : ℕ) : Type 0 where
  pub each : (i : ℕ) → i < runs → IsRun ds (sum_to span i) (shortest i) (span i)
  pub counted : j < length searched → (m : ℕ) → was ≤ m → m < before searched j →
      IsDurationFrom (slice_index bases j) (first + 60 * m) (slice_index labels j) (ds m)

module _ (labels bases searched : List ℕ) (first minutes : ℕ) (ends : List Bool)
    (are : AreLabels labels bases searched first minutes) (mark : AreEnds labels bases ends) where
  -- minutes rise
  before_le : (j : ℕ) → j < length searched → before searched j ≤ slice_index searched j
  before_le zero l = omega arith
  before_le (suc j) l =
      let up = are.plan.ascends j (omega (arith, l)) in
      let e = ap (λ (k : ℕ). slice_index searched k) (let e : j + 1 ≡ suc j = omega arith in e) in
      omega (arith, up, e)

  before_more : (i j : ℕ) → i < j → j ≤ length searched → slice_index searched i + 1 ≤ before searched j
  before_more i zero l h = absurd (omega (arith, l))
  before_more i (suc j) l h = elim (cases_lt i j) [
    | inl low ↦
        let rest = before_more i j low (omega (arith, h)) in
        let up = before_le j (omega (arith, h)) in
        omega (arith, rest, up)
    | inr high ↦
        let e = ap (λ (k : ℕ). slice_index searched k) (let e : i ≡ j = omega (arith, l, high) in e) in
        omega (arith, e)
  ]

  pub left_few : (j was : ℕ) → j < length searched → IsLeft searched ends j was → was ≤ slice_index searched j
  left_few j was l left = let up = before_le j l in let low = left.low in omega (arith, up, low)

  next : (j : ℕ) → before searched (j + 1) ≡ slice_index searched j + 1
  next j = ap (λ (k : ℕ). before searched k) (let e : j + 1 ≡ suc j = omega arith in e)

  pub left_end : (j : ℕ) → IsLeft searched ends (j + 1) (slice_index searched j + 1)
  left_end j = record {
    low = (let e = next j in omega (arith, e));
    closed = λ i e t. sym (next j);
  }

  pub left_on : (j was : ℕ) → j < length searched → slice_index_or ends j false ≡ false → IsLeft searched ends j was →
      IsLeft searched ends (j + 1) was
  left_on j was l unmarked left = record {
    low = (let e = next j in let few = left_few j was l left in omega (arith, e, few));
    closed = λ i e t. absurd (both_ways (slice_index_or ends j false) unmarked
        (ap (λ (k : ℕ). slice_index_or ends k false) (let e : j ≡ i = omega (arith, e) in e) ∙ t));
  }

  pub left_last : (j was : ℕ) → length searched ≤ j → j ≤ length searched → IsLeft searched ends j was → was ≡ minutes
  left_last j was up low left =
      let i : ℕ = length searched - 1 in
      let some = are.plan.some in
      let long = are.long in
      let here : j ≡ i + 1 = omega (arith, some, up, low) in
      let at : slice_index_or ends i false ≡ true = true_from_ne_false (slice_index_or ends i false)
      (λ e. let on = mark.others i (omega (arith, some, long)) e in let more = on.within in
      omega (arith, more, long, some)) in
      let all = left.closed i here at in
      let e = ap (λ (k : ℕ). before searched k) here ∙ next i in
      let end = are.plan.last in
      omega (arith, all, e, end)

  module _ (ds : ℕ → Option ℕ) (counted : AreLabelDurations labels bases searched first minutes ds) where
    -- the durations of all minutes that are left up to a position's own, by its label
    counted_here : (j was runs : ℕ) (shortest span : ℕ → ℕ) → j < length searched →
        AreBegun labels bases searched first ds j was shortest span runs → (m : ℕ) → was ≤ m →
        m ≤ slice_index searched j → IsDurationFrom (slice_index bases j) (first + 60 * m) (slice_index labels j) (ds m)
    counted_here j was runs shortest span l begun m low high = elim (cases_lt m (before searched j)) [
      | inl before ↦ begun.counted l m low before
      | inr since ↦ counted.each m j (60 * (slice_index searched j - m))
          (let within = are.plan.within j l in omega (arith, within, high)) (record {
            within = l;
            no_earlier = high;
            first = λ i less. let more = before_more i j less (omega (arith, l)) in omega (arith, more, since);
            waits = refl;
          })
    ]

    -- a run that ends there
    pub run_here : (j was shortest_here runs : ℕ) (shortest span : ℕ → ℕ) → j < length searched →
        AreBegun labels bases searched first ds j was shortest span runs → was ≤ slice_index searched j →
        (slice_index labels j ≡ 65535 → shortest_here ≡ 65535) →
        (slice_index labels j ≢ 65535 →
        shortest_here + (first + 60 * slice_index searched j) ≡ slice_index bases j + slice_index labels j) →
        slice_index labels j ≤ 65535 →
        IsRun ds was shortest_here (slice_index searched j + 1 - was)
    run_here j was shortest_here runs shortest span l begun low never some fits = record {
      never = λ e k h. (counted_here j was runs shortest span l begun (was + k) (omega arith) (omega (
        arith,
        h,
        low,
      ))).never
          (elim (cases_eq (slice_index labels j) 65535) [
            | inl is ↦ is
            | inr ne ↦
                let sum = some ne in
                let base = are.before j l in
                absurd (ne (omega (arith, sum, e, base, fits)))
          ]);
      counted = λ ne k h.
          let here : slice_index labels j ≢ 65535 = λ e. ne (never e) in
          let sum = some here in
          (counted_here j was runs shortest span l begun (was + k) (omega arith) (omega (arith, h, low))).counted here
          ∙ ap Some (let e : slice_index bases j + slice_index labels j - (first + 60 * (was + k)) ≡
          shortest_here + 60 * (slice_index searched j + 1 - was - 1 - k) = omega (arith, sum, h, low) in e);
    }

    -- a run more, after those that were there
    pub begun_end : (j was runs : ℕ) (shortest span more longer : ℕ → ℕ) → sum_to span runs ≡ was →
        AreBegun labels bases searched first ds j was shortest span runs →
        ((i : ℕ) → i < runs → more i ≡ shortest i) → ((i : ℕ) → i < runs → longer i ≡ span i) →
        IsRun ds was (more runs) (longer runs) →
        AreBegun labels bases searched first ds (j + 1) (slice_index searched j + 1) more longer (runs + 1)
    begun_end j was runs shortest span more longer all begun same_shortest same_span run = record {
      each = λ i l. elim (cases_lt i runs) [
        | inl less ↦
            let sums : sum_to span i ≡ sum_to longer i =
            sum_same span longer i (λ k h. sym (same_span k (omega (arith, h, less)))) in
            subst (λ (s : ℕ). IsRun ds (sum_to longer i) (more i) s) (sym (same_span i less))
            (subst (λ (x : ℕ). IsRun ds (sum_to longer i) x (span i)) (sym (same_shortest i less))
            (subst (λ (f : ℕ). IsRun ds f (shortest i) (span i)) sums (begun.each i less)))
        | inr no_less ↦
            let here : runs ≡ i = omega (arith, l, no_less) in
            let sums : was ≡ sum_to longer runs = sym all ∙ sum_same span longer runs (λ k h. sym (same_span k h)) in
            subst (λ (k : ℕ). IsRun ds (sum_to longer k) (more k) (longer k)) here
            (subst (λ (f : ℕ). IsRun ds f (more runs) (longer runs)) sums run)
      ];
      counted = λ h m low high. absurd (let e = next j in omega (arith, e, low, high));
    }

    -- no run ends there
    pub begun_on : (j was runs : ℕ) (shortest span : ℕ → ℕ) → j < length searched →
        slice_index_or ends j false ≡ false → AreBegun labels bases searched first ds j was shortest span runs →
        AreBegun labels bases searched first ds (j + 1) was shortest span runs
    begun_on j was runs shortest span l unmarked begun = record {
      each = begun.each;
      counted = λ h m low high.
          let same = mark.others j (let long = are.long in omega (arith, l, long)) unmarked in
          let here = counted_here j was runs shortest span l begun m low (let e = next j in omega (arith, e, high)) in
          subst (λ (b : ℕ). IsDurationFrom b (first + 60 * m) (slice_index labels (j + 1)) (ds m)) same.base
          (subst (λ (x : ℕ). IsDurationFrom (slice_index bases j) (first + 60 * m) x (ds m)) same.label here);
    }
