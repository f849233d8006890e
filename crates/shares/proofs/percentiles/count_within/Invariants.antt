use Rattle.std.proofs.Common.{◌≡◌, ◌≤◌, ◌*◌}
use Rattle.rounds.specs.Table.{known_of, label_in}
use Rattle.shares.specs.Percentiles.{minutes_within}
use Rattle.shares.proofs.percentiles.count_within.Given as goal

abbrev pub invariant-loop-batch : goal.invariant-loop-batch
invariant-loop-batch l =
    record {
      count : l.minutes ≡ minutes_within (λ m. known_of (label_in l.lanes m)) l.duration (16 * l.batch-index);
      bound : l.minutes ≤ 16 * l.batch-index;
    }
