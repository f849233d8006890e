use Rattle.std.proofs.Common.{arith}
use Rattle.trip_lanes.proofs.forty_eight.FortyEightLaneLabels.fall.Goals as goal

pub returns : goal.returns
returns c l h =
    record {
      low = λ fell. let least = c.least.ensures.below l h in let here = c.of_fallen.ensures l h fell in omega arith;
      high = λ fell. let most = c.greatest.ensures.above l h in let here = c.of_fallen-2.ensures l h fell in
          omega arith;
      top = λ fell. let most = c.greatest-2.ensures.above l h in let here = c.of_fallen-3.ensures l h fell in
          omega arith;
    }
