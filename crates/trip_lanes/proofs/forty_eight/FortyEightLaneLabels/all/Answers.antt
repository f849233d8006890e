use Rattle.std.proofs.Common.{◌≡◌}
use Rattle.trip_lanes.proofs.LanesSideBySide.{of_both_parts}
use Rattle.trip_lanes.proofs.forty_eight.FortyEightLaneLabels.all.Goals as goal

pub returns : goal.returns
returns c =
    of_both_parts (λ l x. x ≡ c.args.label) 32 16 _ _ _ c.beside.ensures.front c.beside.ensures.back c.all.ensures
    c.all-2.ensures
