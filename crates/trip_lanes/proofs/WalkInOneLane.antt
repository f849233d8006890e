-- Walks, in one lane.
use Rattle.std.proofs.Common.{◌≡◌, ◌≢◌, ℕ, ◌+◌, ◌<◌, ◌≤◌, inl, inr, min, List, length, slice_index, slice_get, Some}
use Rattle.std.proofs.Common.{refl, sym, ◌∙◌, ap, arith}
use Rattle.std.proofs.lemmas.Bool.{cases_lt}
use Rattle.std.proofs.lemmas.Option.{same_Some, slice_get_within}
use Rattle.timetable.specs.declared.trips.StopNo.{StopNo}
use Rattle.timetable.specs.declared.least.TheConstants.{NEVER}
use Rattle.timetable.specs.Footpaths.{FeetData}
use Rattle.timetable.specs.RoundSteps.{Lowers, Leaves}
use Rattle.timetable.proofs.LowersCompose.{lowers_alike, lowers_both}
use Rattle.trip_lanes.specs.Lane.{LeavesLaterTo}
use Rattle.trip_lanes.proofs.WalksByStops.{ChangedAt}

-- one of the first x walks of the list
abbrev pub LaterBelow : ℕ → List (StopNo × ℕ) → ℕ → ℕ → ℕ → ℕ → Type 0
LaterBelow never row time x p end = (o : LeavesLaterTo never row time p end) × (o.0 < x)

pub later_one : (never : ℕ) (row : List (StopNo × ℕ)) (time x stop seconds late : ℕ) {old mid new : List ℕ} →
    slice_get row x ≡ Some (record { 0 = stop }, seconds) → late ≡ min (time + seconds) never →
    Lowers (LaterBelow never row time x) old mid → Lowers (λ p y. (p ≡ stop) × (y ≡ late)) mid new →
    Lowers (LaterBelow never row time (x + 1)) old new
later_one never row time x stop seconds late at_x is_late h k =
    lowers_alike
    (λ p y. λ o. elim o [
      | inl c ↦ (c.0, omega arith)
      | inr e ↦ ((x, seconds, rw e.0 at_x, sym is_late ∙ sym e.1), omega arith)
    ])
    (λ p y. λ c. elim (cases_lt c.0.0 x) [
      | inl l ↦ inl (c.0, l)
      | inr g ↦
          let i : c.0.0 ≡ x = omega (arith, c.1) in
          let runs = rw i at c.0.2 in
          let e = same_Some _ _ (sym runs ∙ at_x) in
          inr (
            ap (λ (v : StopNo × ℕ). v.0.0) e,
            sym c.0.3
                ∙ (ap (λ (v : StopNo × ℕ). min (time + v.1) never) e ∙ sym is_late),
          )
    ])
    (lowers_both h k)

pub later_each : (never : ℕ) (row : List (StopNo × ℕ)) (time x : ℕ) {old new : List ℕ} → length row ≤ x →
    Lowers (LaterBelow never row time x) old new → Lowers (LeavesLaterTo never row time) old new
later_each never row time x all h =
    lowers_alike (λ p y. λ c. c.0) (λ p y. λ c. (c, let k = slice_get_within row c.0 _ c.2 in omega arith)) h

-- a walk that never cuts short ends no earlier than any label, so what it offers is nothing
pub later_is : (never : ℕ) (row : List (StopNo × ℕ)) (time : ℕ) (there new : List ℕ) → never ≤ NEVER →
    ((p : ℕ) → slice_index there p ≤ never) → Lowers (LeavesLaterTo never row time) there new →
    Lowers (λ p y. (time ≢ NEVER) × Leaves row time p y) there new
later_is never row time there new small fits h =
    record {
      same_length = h.same_length;
      label = λ p l.
          let e = h.label p l in
          let low = e.least (slice_index there p) (inl refl) in
          let f = fits p in
          record {
            holds = elim e.holds [
              | inl s ↦ inl s
              | inr o ↦ elim (cases_lt (time + o.1) never) [
                | inl lt ↦ inr (λ z. omega (arith, z), (o.0, o.1, o.2, omega (arith, o.3)))
                | inr ge ↦ inl (omega (arith, o.3))
              ]
            ];
            least = λ n o. elim o [
              | inl s ↦ e.least n (inl s)
              | inr w ↦ let m = e.least (min (time + w.1.1) never) (inr (w.1.0, w.1.1, w.1.2, refl)) in
                  omega (arith, w.1.3)
            ];
          };
    }

-- a stop that is lowered to the end of its change
pub changed_by : (never x late time read change : ℕ) {old new : List ℕ} → late ≡ min (time + read) never →
    read ≡ change → Lowers (λ p y. (p ≡ x) × (y ≡ late)) old new →
    Lowers (λ p y. (p ≡ x) × (y ≡ min (time + change) never)) old new
changed_by never x late time read change is same h =
    let e : late ≡ min (time + change) never = is ∙ ap (λ (c : ℕ). min (time + c) never) same in
    lowers_alike (λ p y o. (o.0, o.1 ∙ e)) (λ p y o. (o.0, o.1 ∙ sym e)) h

-- a change that never cuts short is done no earlier than any label, so what it offers is nothing
pub change_ends : (never : ℕ) (feet : FeetData) (ride : List ℕ) (x : ℕ) (old new : List ℕ) → never ≤ NEVER →
    ((p : ℕ) → slice_index old p ≤ never) → Lowers (λ p y. (p ≡ x)
    × (y ≡ min (slice_index ride x + slice_index feet.changes x) never)) old new →
    Lowers (ChangedAt feet ride x) old new
change_ends never feet ride x old new small fits h =
    let end = slice_index ride x + slice_index feet.changes x in
    record {
      same_length = h.same_length;
      label = λ p l.
          let e = h.label p l in
          let low = e.least (slice_index old p) (inl refl) in
          let f = fits p in
          record {
            holds = elim e.holds [
              | inl s ↦ inl s
              | inr o ↦ elim (cases_lt end never) [
                | inl lt ↦ inr (o.0, λ z. omega (arith, z), omega (arith, o.1))
                | inr ge ↦ inl (omega (arith, o.1))
              ]
            ];
            least = λ n o. elim o [
              | inl s ↦ e.least n (inl s)
              | inr w ↦ let m = e.least (min end never) (inr (w.0, refl)) in omega (arith, w.2)
            ];
          };
    }
