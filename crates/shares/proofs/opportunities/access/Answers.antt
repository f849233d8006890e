use Rattle.std.proofs.Common.{arith}
use Rattle.shares.proofs.AccessByStops.{access_next}
use Rattle.shares.proofs.opportunities.access.Goals as goal

pub loop-i-preserved : goal.loop-i-preserved
loop-i-preserved c =
    let more = access_next c.args.cells.now c.args.opportunities.now c.args.within c.loop-i.i c.loop-i-test.true
    c.requires.same in
    record {
      sum = omega (arith, more, c.loop-i.invariant.sum, c.count_one-sum.ensures.value);
      bound = omega (arith, c.loop-i.invariant.bound, c.count_one-sum.ensures.bound);
    }
