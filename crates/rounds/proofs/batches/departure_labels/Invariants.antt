use Rattle.std.proofs.Common.{◌≡◌, ℕ, ◌+◌, ◌<◌, ◌≤◌, slice_index}
use Rattle.rounds.specs.Batches.{IsDepartureLabel}
use Rattle.rounds.proofs.batches.departure_labels.Given as goal

abbrev pub invariant-loop-l : goal.invariant-loop-l
invariant-loop-l g v =
    record {
      done : (k : ℕ) → k < v.l → k < g.R.LaneLabels.LANES →
          IsDepartureLabel v.query.times.now v.base g.R.LaneLabels.NEVER (v.from + k)
          (slice_index (g.R.LaneLabels.labels v.departures) k);
      rest : (k : ℕ) → v.l ≤ k → k < g.R.LaneLabels.LANES →
          slice_index (g.R.LaneLabels.labels v.departures) k ≡ g.R.LaneLabels.NEVER;
    }
