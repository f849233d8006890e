use Rattle.std.proofs.Common.{◌≡◌, ◌+◌, min, slice_index, arith}
use Rattle.trip_lanes.proofs.LanesSideBySide.{of_both_parts}
use Rattle.trip_lanes.proofs.forty_eight.FortyEightLaneLabels.later.Goals as goal

pub returns : goal.returns
returns c =
    of_both_parts (λ l x. x ≡ min (slice_index c.args.self l + c.args.seconds) 65535) 32 16 _ _ _
    c.beside.ensures.front c.beside.ensures.back
    (λ l h. omega (arith, c.later.ensures l h, c.front_of.ensures l h))
    (λ l h. omega (arith, c.later-2.ensures l h, c.back_of.ensures l h))
