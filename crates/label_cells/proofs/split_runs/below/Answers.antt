use Rattle.std.proofs.Common.{arith}
use Rattle.label_cells.proofs.SplitRunsInOneLane.{few_spans}
use Rattle.label_cells.proofs.split_runs.below.Goals as goal

pub add_below-more-requires-clause-room : goal.add_below-more-requires-clause-room
add_below-more-requires-clause-room c l h =
    let few = few_spans c.args.rows.now l c.loop-row.row-index c.requires.small h c.loop-row-test.true in
    let is = c.loop-row.invariant.few l h in
    omega (arith, few, is)
