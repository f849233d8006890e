-- The lower label of a stop, in each lane of two tables of rows.
use Rattle.std.proofs.Common.{◌≡◌, ℕ, ◌<◌, List, length, min, get_or, slice_index, sym, ◌∙◌}
use Rattle.trip_lanes.specs.Lane.{lane, labels_in}
use Rattle.trip_lanes.proofs.LoweredStop.{row_lane}
use Rattle.rounds.specs.State.{arrival}

pub lower_arrival : {A : Type 0} (labels : A →
    List ℕ) (ride ready : List A) (s l : ℕ) (ridden readied : A) (none none' : A) (low : A) →
    ridden ≡ get_or ride s none → readied ≡ get_or ready s none' → s < length ride → s < length ready →
    slice_index (labels low) l ≡ min (slice_index (labels ridden) l) (slice_index (labels readied) l) →
    slice_index (labels low) l ≡ arrival (lane l (labels_in labels ride)) (lane l (labels_in labels ready)) s
lower_arrival labels ride ready s l ridden readied none none' low a b in_ride in_ready e =
    let x = row_lane labels ride s l ridden none a in_ride in
    let y = row_lane labels ready s l readied none' b in_ready in
    e ∙ (λ i. min (sym x i) (sym y i))
