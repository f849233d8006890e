use Rattle.std.proofs.Common.{◌≡◌, ◌≢◌, ℕ, ◌+◌, ◌*◌, ◌<◌, [], length, slice_index, slice_index_or}
use Rattle.timetable.specs.declared.least.TheConstants.{NEVER}
use Rattle.trip_lanes.specs.Lane.{lane, labels_in}
use Rattle.trip_lanes.specs.Since.{IsSinceTo}
use Rattle.rounds.specs.State.{arrival}
use Rattle.rounds.proofs.wide.write_batch.Given as goal

abbrev pub invariant-loop-stop : goal.invariant-loop-stop
invariant-loop-stop v =
    record {
      same : length v.labels ≡ length v.initial.labels;
      written : (l p : ℕ) → l < 16 → p < v.stop →
          IsSinceTo NEVER (slice_index v.fn.departures l)
          (arrival (lane l (labels_in (λ row. row) v.ride)) (lane l (labels_in (λ row. row) v.ready)) p)
          (slice_index (slice_index_or v.labels (p * v.batches + v.at) []) l);
      kept : (p b : ℕ) → b < v.batches → b ≢ v.at →
          slice_index_or v.labels (p * v.batches + b) [] ≡ slice_index_or v.initial.labels (p * v.batches + b) [];
    }
