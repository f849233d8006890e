-- What the first walks, and the first changes, offer.
use Rattle.std.proofs.Common.{◌≡◌, ◌≢◌, ℕ, ◌+◌, ◌<◌, ◌≤◌, ◌⊎◌, inl, inr, List, length, slice_index, slice_get, Some}
use Rattle.std.proofs.Common.{sym, ◌∙◌, ap, arith}
use Rattle.std.proofs.lemmas.Bool.{cases_lt}
use Rattle.std.proofs.lemmas.Option.{same_Some, slice_get_within}
use Rattle.timetable.specs.declared.trips.StopNo.{StopNo}
use Rattle.timetable.specs.declared.least.TheConstants.{NEVER}
use Rattle.timetable.specs.Footpaths.{FootLists, FeetData}
use Rattle.timetable.specs.RoundSteps.{Lowers, Leaves, Walked, WalkedOrStayed, Changed, ChangedOrWalked}
use Rattle.timetable.proofs.LowersCompose.{lowers_alike, lowers_alike_in, lowers_both}

-- one of the first x walks of the list
abbrev pub LeavesBelow : List (StopNo × ℕ) → ℕ → ℕ → ℕ → ℕ → Type 0
LeavesBelow row time x p end = (l : Leaves row time p end) × (l.0 < x)

-- one more walk
pub leave_one : (row : List (StopNo × ℕ)) (time x stop seconds : ℕ) {old mid new : List ℕ} →
    slice_get row x ≡ Some (record { 0 = stop }, seconds) → Lowers (LeavesBelow row time x) old mid →
    Lowers (λ p y. (p ≡ stop) × (y ≡ time + seconds)) mid new → Lowers (LeavesBelow row time (x + 1)) old new
leave_one row time x stop seconds at_x h k =
    lowers_alike
    (λ p y. λ o. elim o [
      | inl c ↦ (c.0, omega arith)
      | inr e ↦ ((x, seconds, rw e.0 at_x, sym e.1), omega arith)
    ])
    (λ p y. λ c. elim (cases_lt c.0.0 x) [
      | inl l ↦ inl (c.0, l)
      | inr g ↦
          let i : c.0.0 ≡ x = omega (arith, c.1) in
          let runs = rw i at c.0.2 in
          let e = same_Some _ _ (sym runs ∙ at_x) in
          inr (ap (λ (v : StopNo × ℕ). v.0.0) e, sym c.0.3 ∙ ap (λ (v : StopNo × ℕ). time + v.1) e)
    ])
    (lowers_both h k)

-- all walks
pub leave_each : (row : List (StopNo × ℕ)) (time x : ℕ) {old new : List ℕ} → length row ≤ x →
    Lowers (LeavesBelow row time x) old new → Lowers (Leaves row time) old new
leave_each row time x all h =
    lowers_alike (λ p y. λ c. c.0) (λ p y. λ c. (c, let k = slice_get_within row c.0 _ c.2 in omega arith)) h

-- staying at one of the first x stops, or walking from it
abbrev pub OfferedBelow : FootLists → List ℕ → ℕ → ℕ → ℕ → Type 0
OfferedBelow feet ride x p end =
    ((p < x) × (end ≡ slice_index ride p)) ⊎ ((w : Walked feet ride p end) × (w.from < x))

-- one more stop
pub offer_one : (feet : FootLists) (ride : List ℕ) (x : ℕ) (row : List (StopNo × ℕ)) {old mid there new : List ℕ} →
    slice_get feet x ≡ Some row → Lowers (OfferedBelow feet ride x) old mid →
    Lowers (λ p y. (p ≡ x) × (y ≡ slice_index ride x)) mid there →
    Lowers (λ p y. (slice_index ride x ≢ NEVER) × Leaves row (slice_index ride x) p y) there new →
    Lowers (OfferedBelow feet ride (x + 1)) old new
offer_one feet ride x row at_x h k m =
    lowers_alike
    (λ p y. λ o. elim o [
      | inl q ↦ elim q [
        | inl before ↦ elim before [
          | inl stay ↦ inl (omega (arith, stay.0), stay.1)
          | inr w ↦ inr (w.0, omega (arith, w.1))
        ]
        | inr here ↦ inl (omega (arith, here.0), rw here.0 here.1)
      ]
      | inr go ↦ inr (
        record {
          from = x;
          seconds = go.1.1;
          foot = (row, go.1.0, at_x, go.1.2);
          reached = go.0;
          time = go.1.3;
        },
        omega arith,
      )
    ])
    (λ p y. λ o. elim o [
      | inl stay ↦ elim (cases_lt p x) [
        | inl l ↦ inl (inl (inl (l, stay.1)))
        | inr g ↦ let e : p ≡ x = omega (arith, stay.0) in inl (inr (e, rw e at stay.1))
      ]
      | inr w ↦ elim (cases_lt w.0.from x) [
        | inl l ↦ inl (inl (inr (w.0, l)))
        | inr g ↦
            let e : w.0.from ≡ x = omega (arith, w.1) in
            let same = same_Some w.0.foot.0 row (sym (rw e at w.0.foot.2) ∙ at_x) in
            inr (rw e at w.0.reached, (w.0.foot.1, w.0.seconds, rw same at w.0.foot.3, rw e at w.0.time))
      ]
    ])
    (lowers_both (lowers_both h k) m)

-- all stops
pub offer_each : (feet : FootLists) (ride : List ℕ) (x : ℕ) {old new : List ℕ} → length old ≤ x → length feet ≤ x →
    Lowers (OfferedBelow feet ride x) old new → Lowers (WalkedOrStayed feet ride) old new
offer_each feet ride x {old} all each h =
    lowers_alike_in
    (λ p y l. λ o. elim o [ inl stay ↦ inl stay.1 | inr w ↦ inr w.0 ])
    (λ p y l. λ o. elim o [
      | inl stay ↦ inl (omega arith, stay)
      | inr w ↦ inr (w, let k = slice_get_within feet w.from w.foot.0 w.foot.2 in omega arith)
    ])
    h

-- changing at one of the first x stops, or walking from it
abbrev pub TransferredBelow : FeetData → List ℕ → ℕ → ℕ → ℕ → Type 0
TransferredBelow feet ride x p end =
    ((p < x) × Changed feet.changes ride p end) ⊎ ((w : Walked feet.walks ride p end) × (w.from < x))

-- changing at the stop x
abbrev pub ChangedAt : FeetData → List ℕ → ℕ → ℕ → ℕ → Type 0
ChangedAt feet ride x p end = (p ≡ x) × (slice_index ride x ≢ NEVER)
    × (end ≡ slice_index ride x + slice_index feet.changes x)

-- one more stop
pub transfer_one : (feet : FeetData) (ride : List ℕ) (x : ℕ) (row : List (StopNo × ℕ)) {old mid there new : List ℕ} →
    slice_get feet.walks x ≡ Some row → Lowers (TransferredBelow feet ride x) old mid →
    Lowers (ChangedAt feet ride x) mid there →
    Lowers (λ p y. (slice_index ride x ≢ NEVER) × Leaves row (slice_index ride x) p y) there new →
    Lowers (TransferredBelow feet ride (x + 1)) old new
transfer_one feet ride x row at_x h k m =
    lowers_alike
    (λ p y. λ o. elim o [
      | inl q ↦ elim q [
        | inl before ↦ elim before [
          | inl change ↦ inl (omega (arith, change.0), change.1)
          | inr w ↦ inr (w.0, omega (arith, w.1))
        ]
        | inr here ↦ inl (omega (arith, here.0), rw here.0 (record { reached = here.1; time = sym here.2 }))
      ]
      | inr go ↦ inr (
        record {
          from = x;
          seconds = go.1.1;
          foot = (row, go.1.0, at_x, go.1.2);
          reached = go.0;
          time = go.1.3;
        },
        omega arith,
      )
    ])
    (λ p y. λ o. elim o [
      | inl change ↦ elim (cases_lt p x) [
        | inl l ↦ inl (inl (inl (l, change.1)))
        | inr g ↦ let e : p ≡ x = omega (arith, change.0) in
            inl (inr (e, rw e at change.1.reached, rw e at (sym change.1.time)))
      ]
      | inr w ↦ elim (cases_lt w.0.from x) [
        | inl l ↦ inl (inl (inr (w.0, l)))
        | inr g ↦
            let e : w.0.from ≡ x = omega (arith, w.1) in
            let same = same_Some w.0.foot.0 row (sym (rw e at w.0.foot.2) ∙ at_x) in
            inr (rw e at w.0.reached, (w.0.foot.1, w.0.seconds, rw same at w.0.foot.3, rw e at w.0.time))
      ]
    ])
    (lowers_both (lowers_both h k) m)

-- all stops
pub transfer_each : (feet : FeetData) (ride : List ℕ) (x : ℕ) {old new : List ℕ} → length old ≤ x →
    length feet.walks ≤ x → Lowers (TransferredBelow feet ride x) old new → Lowers (ChangedOrWalked feet ride) old new
transfer_each feet ride x {old} all each h =
    lowers_alike_in
    (λ p y l. λ o. elim o [ inl change ↦ inl change.1 | inr w ↦ inr w.0 ])
    (λ p y l. λ o. elim o [
      | inl change ↦ inl (omega arith, change)
      | inr w ↦ inr (w, let k = slice_get_within feet.walks w.from w.foot.0 w.foot.2 in omega arith)
    ])
    h
