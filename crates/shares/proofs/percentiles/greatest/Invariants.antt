use Rattle.std.proofs.Common.{◌≡◌, ◌≢◌, ◌≤◌, ◌<◌, ◌*◌, ◌%◌, ℕ, Some, slice_index}
use Rattle.timetable.specs.declared.least.TheConstants.{NEVER}
use Rattle.rounds.specs.Table.{known_of, label_in}
use Rattle.shares.proofs.percentiles.greatest.Given as goal

abbrev pub invariant-loop-batch : goal.invariant-loop-batch
invariant-loop-batch v = record {
  known : (l : ℕ) → l < 16 → slice_index v.high l ≢ NEVER;
  greatest : (m d : ℕ) → m < 16 * v.batch-index → known_of (label_in v.lanes m) ≡ Some d →
      d ≤ slice_index v.high (m % 16);
}
