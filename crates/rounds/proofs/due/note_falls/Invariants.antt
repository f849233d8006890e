use Rattle.std.proofs.Common.{◌≡◌, ◌<◌, ◌≤◌, ℕ, slice_get, slice_index, Some, true}
use Rattle.timetable.specs.FlatLists.{IsIn}
use Rattle.trip_lanes.specs.Lane.{lane, labels_in}
use Rattle.trip_lanes.specs.Falls.{HasFallen}
use Rattle.trip_lanes.specs.declared.falls.Fall.{Fall}
use Rattle.rounds.proofs.due.note_falls.Given as goal

abbrev pub invariant-loop-stop : goal.invariant-loop-stop
invariant-loop-stop g v =
    record {
      falls : (l p : ℕ) (f : Fall) → l < g.R.LaneLabels.LANES → p < v.stop → slice_get v.falls p ≡ Some f →
          slice_get v.fallen p ≡ Some true →
          HasFallen (slice_index (lane l (labels_in g.R.LaneLabels.labels v.before)) p)
          (slice_index (lane l (labels_in g.R.LaneLabels.labels v.ready)) p) f;
      due : (p line position : ℕ) (f : Fall) → p < v.stop → IsIn v.lines.boarded p (line, position) →
          slice_get v.falls p ≡ Some f → f.low < f.top → slice_index v.due line ≤ position;
    }
