use Rattle.std.proofs.Common.{arith}
use Rattle.label_cells.proofs.SplitRunsInOneLane.{few_spans}
use Rattle.label_cells.proofs.split_runs.known.Goals as goal

pub sum_of-more-requires : goal.sum_of-more-requires
sum_of-more-requires c l h =
    let few = few_spans c.args.rows.now l c.loop-row.row-index c.requires h c.loop-row-test.true in
    let is = c.loop-row.invariant l h in
    omega (arith, few, is)
