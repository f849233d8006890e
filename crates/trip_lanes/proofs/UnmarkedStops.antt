-- Stops from which nobody walks to a lower label.
use Rattle.std.proofs.Common.{◌≡◌, ℕ, ◌+◌, ◌<◌, ◌≤◌, inl, inr, List, length, slice_index, slice_get, Some, Bool, true}
use Rattle.std.proofs.Common.{refl, arith}
use Rattle.std.proofs.lemmas.Bool.{cases_lt}
use Rattle.timetable.specs.Footpaths.{FootLists, FeetData}
use Rattle.timetable.specs.RoundSteps.{Lowers}
use Rattle.timetable.proofs.LowersCompose.{lowers_alike, lowers_both}
use Rattle.trip_lanes.proofs.WalksByStops.{OfferedBelow, TransferredBelow}
use Rattle.trip_lanes.specs.Scan.{NothingLower}
use Rattle.trip_lanes.specs.Walks.{OfferedFrom, TransferredFrom}
use Rattle.trip_lanes.specs.Lane.{lane, MarksFallenOf}
use Rattle.trip_lanes.proofs.NothingLowerStays.{nothing_lowers}

-- one more stop, which has nothing lower to offer
pub offer_skip : (feet : FootLists) (ride : List ℕ) (x : ℕ) (old mid : List ℕ) →
    Lowers (OfferedBelow feet ride x) old mid → NothingLower (OfferedFrom feet ride x) old →
    Lowers (OfferedBelow feet ride (x + 1)) old mid
offer_skip feet ride x old mid h none =
    let still : NothingLower (OfferedFrom feet ride x) mid = λ p y l o.
    let m : p < length old = omega (arith, h.same_length) in
    let low = none p y m o in
    let fall = (h.label p m).least (slice_index old p) (inl refl) in
    omega arith in
    lowers_alike
    (λ p y. λ o. elim o [
      | inl before ↦ elim before [
        | inl stay ↦ inl (omega (arith, stay.0), stay.1)
        | inr w ↦ inr (w.0, omega (arith, w.1))
      ]
      | inr here ↦ elim here [ inl stay ↦ inl (omega (arith, stay.0), stay.1) | inr w ↦ inr (w.0, omega (arith, w.1)) ]
    ])
    (λ p y. λ o. elim o [
      | inl stay ↦ elim (cases_lt p x) [
        | inl l ↦ inl (inl (l, stay.1))
        | inr g ↦ let e : p ≡ x = omega (arith, stay.0) in inr (inl (e, stay.1))
      ]
      | inr w ↦ elim (cases_lt w.0.from x) [
        | inl l ↦ inl (inr (w.0, l))
        | inr g ↦ let e : w.0.from ≡ x = omega (arith, w.1) in inr (inr (w.0, e))
      ]
    ])
    (lowers_both h (nothing_lowers mid still))

-- where a stop is not marked, no lane fell
pub unmarked_still : {lanes : ℕ} (old new : List (List ℕ)) (was is : List Bool) (x l : ℕ) →
    MarksFallenOf lanes old new was is → x < length was → (slice_get is x ≡ Some true → ⊥) → l < lanes →
    slice_index (lane l new) x ≤ slice_index (lane l old) x → slice_index (lane l new) x ≡ slice_index (lane l old) x
unmarked_still old new was is x l marks within none h falls =
    elim (cases_lt (slice_index (lane l new) x) (slice_index (lane l old) x)) [
      | inl lt ↦ absurd (none ((marks.marks x within).1 (inr (l, h, lt))))
      | inr ge ↦ omega (arith, falls)
    ]

-- one more stop, where no change and no walk from it is over earlier
pub transfer_skip : (feet : FeetData) (ride : List ℕ) (x : ℕ) (old mid : List ℕ) →
    Lowers (TransferredBelow feet ride x) old mid → NothingLower (TransferredFrom feet ride x) old →
    Lowers (TransferredBelow feet ride (x + 1)) old mid
transfer_skip feet ride x old mid h none =
    let still : NothingLower (TransferredFrom feet ride x) mid = λ p y l o.
    let m : p < length old = omega (arith, h.same_length) in
    let low = none p y m o in
    let fall = (h.label p m).least (slice_index old p) (inl refl) in
    omega arith in
    lowers_alike
    (λ p y. λ o. elim o [
      | inl before ↦ elim before [
        | inl change ↦ inl (omega (arith, change.0), change.1)
        | inr w ↦ inr (w.0, omega (arith, w.1))
      ]
      | inr here ↦ elim here [
        | inl change ↦ inl (omega (arith, change.0), change.1)
        | inr w ↦ inr (w.0, omega (arith, w.1))
      ]
    ])
    (λ p y. λ o. elim o [
      | inl change ↦ elim (cases_lt p x) [
        | inl l ↦ inl (inl (l, change.1))
        | inr g ↦ let e : p ≡ x = omega (arith, change.0) in inr (inl (e, change.1))
      ]
      | inr w ↦ elim (cases_lt w.0.from x) [
        | inl l ↦ inl (inr (w.0, l))
        | inr g ↦ let e : w.0.from ≡ x = omega (arith, w.1) in inr (inr (w.0, e))
      ]
    ])
    (lowers_both h (nothing_lowers mid still))
