-- Labels that are lowered to bounds, stop by stop.
use Rattle.std.proofs.Common.{◌≡◌, ◌≢◌, ℕ, ◌<◌, ◌≤◌, ◌+◌, inl, inr, List, Bool, true, Some, length, min, set}
use Rattle.std.proofs.Common.{slice_index, slice_get, get_or, arith, refl, sym, ◌∙◌, ap}
use Rattle.std.specs.Prelude.{Vec}
use Rattle.std.specs.Vec.{with_items}
use Rattle.std.proofs.lemmas.Bool.{cases_lt}
use Rattle.std.proofs.lemmas.List.{length-map, get_or-map, map-set, set-get_or, with_items_is}
use Rattle.timetable.specs.Networks.{Net}
use Rattle.timetable.specs.Journeys.{Whereabouts}
use Rattle.timetable.specs.RoundSteps.{Lowers}
use Rattle.timetable.proofs.LowersCompose.{lowers_alike, lowers_both}
use Rattle.trip_lanes.specs.Cut.{cut}
use Rattle.trip_lanes.specs.Falls.{AreNoted}
use Rattle.trip_lanes.specs.Lane.{lane, labels_in}
use Rattle.trip_lanes.proofs.LoweredStop.{lowers_set, row_lane}
use Rattle.rounds.specs.declared.bounded.RoundTimes.{RoundTimes}
use Rattle.rounds.specs.Batches.{as_labels}
use Rattle.rounds.specs.CappedLabels.{LaneStateTo}
use Rattle.rounds.specs.Cut.{cut_net}

-- one stop more
one_more : (bound : List ℕ) (s time : ℕ) {old mid new : List ℕ} → time ≡ slice_index bound s →
    Lowers (λ p x. (p < s) × (x ≡ slice_index bound p)) old mid → Lowers (λ p x. (p ≡ s) × (x ≡ time)) mid new →
    Lowers (λ p x. (p < s + 1) × (x ≡ slice_index bound p)) old new
one_more bound s time e h k =
    lowers_alike
    (λ p x o. elim o [
      | inl c ↦ (omega (arith, c.0), c.1)
      | inr c ↦ (omega (arith, c.0), c.1 ∙ (e ∙ ap (λ q. slice_index bound q) (sym c.0)))
    ])
    (λ p x o. elim (cases_lt p s) [
      | inl lt ↦ inl (lt, o.1)
      | inr ge ↦ let q : p ≡ s = omega (arith, o.0) in inr (q, o.1 ∙ (ap (λ i. slice_index bound i) q ∙ sym e))
    ])
    (lowers_both h k)

-- one stop more, at the bound that was kept of it
pub one_more_bound : (base cap : ℕ) (kept : List ℕ) (s bound : ℕ) {old mid new : List ℕ} → s < length kept →
    bound ≡ slice_index kept s → Lowers (λ p x. (p < s) × (x ≡ slice_index (as_labels base cap kept) p)) old mid →
    Lowers (λ p x. (p ≡ s) × (x ≡ cut base cap bound)) mid new →
    Lowers (λ p x. (p < s + 1) × (x ≡ slice_index (as_labels base cap kept) p)) old new
one_more_bound base cap kept s bound there is before lowered =
    one_more (as_labels base cap kept) s (cut base cap bound)
    (ap (cut base cap) is ∙ sym (get_or-map (cut base cap) kept s 0 0 there)) before lowered

-- the row of a stop that is lowered to its bound, in one lane
pub row_lowered : {A : Type 0} (labels : A → List ℕ) (rows : List A) (s l : ℕ) (row low : A) (bound : ℕ) →
    row ≡ get_or rows s row → s < length rows →
    slice_index (labels low) l ≡ min (slice_index (labels row) l) bound →
    Lowers (λ p x. (p ≡ s) × (x ≡ bound)) (lane l (labels_in labels rows))
    (lane l (labels_in labels (set rows s low)))
row_lowered labels rows s l row low bound is within lower =
    let xs = labels_in labels rows in
    let long : s < length (lane l xs) =
    omega (arith, length-map xs (λ w. slice_index w l), length-map rows labels, within) in
    rw (
      map-set labels rows s low,
      map-set (λ w. slice_index w l) xs s (labels low),
      lower,
      ← row_lane labels rows s l row row is within,
    ) (lowers_set (lane l xs) s bound long)

-- a label that a bound isn't below stays
pub stays : (xs : List ℕ) (s bound : ℕ) → s < length xs → slice_index xs s ≤ bound →
    Lowers (λ p x. (p ≡ s) × (x ≡ bound)) xs xs
stays xs s bound within low =
    let e : min (get_or xs s 0) bound ≡ get_or xs s 0 = omega arith in
    rw (e, set-get_or xs s 0) at (lowers_set xs s bound within)

-- where no stop is noted, labels are as they were before
pub none_noted : (ready kept : List ℕ) (fallen : List Bool) → ((p : ℕ) → slice_get fallen p ≢ Some true) →
    AreNoted ready ready kept fallen
none_noted ready kept fallen none = record { noted = λ p on. absurd (none p on); still = λ p out. refl }

-- what is kept of labels has a position for each stop
pub times_long : (base never k : ℕ) (n : Net) (o : Whereabouts) (x : RoundTimes) →
    LaneStateTo never (cut_net base never n) o k (as_labels base never x.ride.items)
    (as_labels base never x.ready.items) → (length x.ride.items ≡ n.stops) × (length x.ready.items ≡ n.stops)
times_long base never k n o x s = (
  sym (length-map x.ride.items (cut base never)) ∙ s.ride_len,
  sym (length-map x.ready.items (cut base never)) ∙ s.ready_len,
)

-- a list that was written in place is what was written, and as long as it was
pub written : {X Z : Type 0} {slice : List X} {n : ℕ} (v : Vec X Z) (ws : List X) → length v.items ≡ n →
    slice ≡ v.items → length slice ≡ v.len → length ws ≡ n → (with_items v ws).items ≡ ws
written v ws size is long same = with_items_is v ws (same ∙ (sym size ∙ (sym (ap length is) ∙ long)))

pub written_long : {X Z : Type 0} {slice : List X} {n : ℕ} (v : Vec X Z) (ws : List X) → length v.items ≡ n →
    slice ≡ v.items → length slice ≡ v.len → length ws ≡ n → length (with_items v ws).items ≡ n
written_long v ws size is long same = ap length (written v ws size is long same) ∙ same
