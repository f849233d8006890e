use Rattle.std.proofs.Common.{arith}
use Rattle.shares.proofs.MinutesCounted.{count_batches}
use Rattle.shares.proofs.percentiles.count_within.Goals as goal

pub loop-batch-preserved : goal.loop-batch-preserved
loop-batch-preserved c =
    let more = count_batches c.args.lanes.now c.args.duration c.loop-batch.batch-index in
    record {
      count = (let here = c.count_batch-minutes.ensures.count in let before = c.loop-batch.invariant.count in
          omega (arith, more, here, before));
      bound = (let here = c.count_batch-minutes.ensures.bound in let before = c.loop-batch.invariant.bound in
          omega (arith, here, before));
    }
