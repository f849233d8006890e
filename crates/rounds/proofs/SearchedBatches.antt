-- The departures of a query: the order in which they lie, and the labels that represent those of a batch.
use Rattle.std.proofs.Common.{◌≡◌, ℕ, zero, suc, ◌+◌, ◌-◌, ◌<◌, ◌≤◌, inl, inr, List, length, slice_index, ap, arith}
use Rattle.std.proofs.lemmas.Bool.{cases_lt}
use Rattle.timetable.specs.declared.least.TheConstants.{NEVER}
use Rattle.timetable.specs.declared.limits.TheConstants.{END_OF_AXIS, MOST_FOOT_SECONDS}
use Rattle.rounds.specs.declared.query.Query.{Query}
use Rattle.rounds.specs.Batches.{IsInRange, departure_at}
use Rattle.rounds.specs.Query.{AreDepartures}

module _ (times : List ℕ) (ascend : (j : ℕ) → j + 1 < length times → slice_index times j < slice_index times (j + 1)) where
  -- what lies some positions on is later by a second for each at least
  pub rises : (j l : ℕ) → j + l < length times → slice_index times j + l ≤ slice_index times (j + l)
  rises j zero h =
      let e : j + zero ≡ j = omega arith in
      let same = ap (λ (i : ℕ). slice_index times i) e in
      omega (arith, same)
  rises j (suc l) h =
      let e : j + suc l ≡ j + l + 1 = omega arith in
      let same = ap (λ (i : ℕ). slice_index times i) e in
      let low = rises j l (omega (arith, h)) in
      let up = ascend (j + l) (omega (arith, h)) in
      omega (arith, same, low, up)

  -- what comes later is no sooner
  pub rises_to : (j i : ℕ) → j ≤ i → i < length times → slice_index times j ≤ slice_index times i
  rises_to j i le h =
      let e : j + (i - j) ≡ i = omega (arith, le) in
      let same = ap (λ (k : ℕ). slice_index times k) e in
      let low = rises j (i - j) (omega (arith, e, h)) in
      omega (arith, same, low)

module _ (times : List ℕ) (are : AreDepartures times) where
  pub no_sooner : (j l : ℕ) → j + l < length times → slice_index times j + l ≤ slice_index times (j + l)
  no_sooner = rises times are.ascend

  pub ascends : (j i : ℕ) → j ≤ i → i < length times → slice_index times j ≤ slice_index times i
  ascends = rises_to times are.ascend

  -- none is sooner than the first
  pub after_first : (j : ℕ) → j < length times → slice_index times 0 ≤ slice_index times j
  after_first j h = ascends 0 j (omega arith) h

  -- those of a batch are no later than the one that bounds it
  pub before_next : (lanes from l : ℕ) → l < lanes → from + lanes < length times →
      slice_index times (from + l) ≤ slice_index times (from + lanes)
  before_next lanes from l h more = ascends (from + l) (from + lanes) (omega (arith, h)) more

  -- there are no more of them than seconds on the axis
  pub few_departures : length times ≤ END_OF_AXIS
  few_departures =
      let last : 0 + (length times - 1) < length times = omega (arith, are.some) in
      let low = no_sooner 0 (length times - 1) last in
      let high = are.on_axis (0 + (length times - 1)) last in
      omega (arith, low, high)

-- labels represent the departures of a batch in range, and a walk after each
module _ (q : Query) (are : AreDepartures q.times.now) (lanes never from base : ℕ)
    (range : IsInRange lanes never q from) (narrow : never + END_OF_AXIS < NEVER → departure_at q from ≤ base + 1)
    (wide : NEVER ≤ never + END_OF_AXIS → base ≡ 0) where
  pub represented : (l : ℕ) → l ≤ lanes → from + l < length q.times.now →
      departure_at q (from + l) + MOST_FOOT_SECONDS < base + never
  represented l h within = elim (cases_lt (never + END_OF_AXIS) NEVER) [
    | inl short ↦ let r = range l h within in let first = narrow short in omega (arith, r, first)
    | inr long ↦
        let zero = wide long in
        let axis = are.on_axis (from + l) within in
        omega (arith, zero, axis, long)
  ]
