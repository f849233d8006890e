use Rattle.std.proofs.Common.{◌≡◌, ℕ, ◌+◌, ◌<◌, ◌≤◌, ◌⊎◌, length}
use Rattle.trip_lanes.specs.Lane.{lane, labels_in}
use Rattle.useful_minutes.specs.Counted.{narrow_at}
use Rattle.rounds.specs.State.{arrival}
use Rattle.rounds.proofs.narrow.write_found.Given as goal

abbrev pub invariant-loop-stop : goal.invariant-loop-stop
invariant-loop-stop g v =
    record {
      same : length v.found ≡ length v.initial.found;
      written : (l p : ℕ) → l < g.R.LaneLabels.LANES → p < v.stop →
          narrow_at v.width v.found p (v.from + l)
          ≡ arrival (lane l (labels_in g.R.LaneLabels.labels v.ride))
          (lane l (labels_in g.R.LaneLabels.labels v.ready)) p;
      kept : (p j : ℕ) → j < v.width → (j < v.from) ⊎ (v.from + g.R.LaneLabels.LANES ≤ j) →
          narrow_at v.width v.found p j ≡ narrow_at v.width v.initial.found p j;
    }
