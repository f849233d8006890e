use Rattle.std.proofs.Common.{◌≡◌, min, slice_index, arith}
use Rattle.trip_lanes.proofs.LanesSideBySide.{of_both_parts}
use Rattle.trip_lanes.proofs.forty_eight.FortyEightLaneLabels.lower_of.Goals as goal

pub returns : goal.returns
returns c =
    of_both_parts (λ l x. x ≡ min (slice_index c.args.self l) (slice_index c.args.other l)) 32 16 _ _ _
    c.beside.ensures.front c.beside.ensures.back
    (λ l h. omega (arith, c.lower_of.ensures l h, c.front_of.ensures l h, c.front_of-2.ensures l h))
    (λ l h. omega (arith, c.lower_of-2.ensures l h, c.back_of.ensures l h, c.back_of-2.ensures l h))
