use Rattle.std.proofs.Common.{arith}
use Rattle.trip_lanes.proofs.ChoicesInOneLane.{reached_at, all_reached}
use Rattle.trip_lanes.proofs.sixteen.SixteenLaneLabels.is_reached.Goals as goal
use mir.Syntax.{w16}

pub returns : goal.returns
returns c = (
  λ whole l h. reached_at w16 16 (omega arith) 65535 c.args.self c.args.departs l h (omega arith) (omega arith)
      (λ e. omega (arith, e)) whole,
  λ each. all_reached w16 16 (omega arith) 65535 c.args.self c.args.departs (omega arith) (omega arith)
      (λ e. omega (arith, e)) each,
)
