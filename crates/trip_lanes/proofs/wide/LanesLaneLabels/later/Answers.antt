use Rattle.std.proofs.Common.{◌-◌, ℕ, arith, replicate}
use Rattle.std.proofs.lemmas.Simd.{get_or-replicate, length-replicate}
use Rattle.trip_lanes.proofs.VectorChoices.{later_at}
use Rattle.trip_lanes.proofs.wide.LanesLaneLabels.later.Goals as goal
use mir.Syntax.{w32}

pub returns : goal.returns
returns c l h =
    let room = 4294967295 - c.args.seconds in
    later_at w32 16 c.args.self (replicate 16 room) c.args.seconds 4294967295 l h (omega arith)
    (length-replicate 16 room) (get_or-replicate {A = ℕ} 16 l room 0 h) (omega arith)
