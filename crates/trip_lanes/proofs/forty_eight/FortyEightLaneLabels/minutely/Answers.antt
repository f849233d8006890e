use Rattle.std.proofs.Common.{sym}
use Rattle.trip_lanes.proofs.LanesSideBySide.{of_both_parts, minutes_go_on}
use Rattle.trip_lanes.specs.Since.{IsMinutely}
use Rattle.trip_lanes.proofs.forty_eight.FortyEightLaneLabels.minutely.Goals as goal

pub returns : goal.returns
returns c =
    of_both_parts (λ l x. IsMinutely c.args.first c.args.minutes 65535 l x) 32 16 _ _ _ c.beside.ensures.front
    c.beside.ensures.back c.minutely.ensures
    (λ l h. minutes_go_on c.args.first c.args.minutes l _ (rw (sym c.left_of.ensures) (c.minutely-2.ensures l h)))
