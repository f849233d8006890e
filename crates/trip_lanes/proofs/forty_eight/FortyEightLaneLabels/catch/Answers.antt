use Rattle.std.proofs.Common.{◌≡◌, ◌<◌, ◌≤◌, slice_index, arith}
use Rattle.trip_lanes.proofs.LanesSideBySide.{of_both_parts}
use Rattle.trip_lanes.proofs.forty_eight.FortyEightLaneLabels.catch.Goals as goal

pub returns-clause-caught : goal.returns-clause-caught
returns-clause-caught c =
    of_both_parts (λ l x. slice_index c.args.self l ≤ c.args.depart → x ≡ c.args.rank) 32 16 _ _ _
    c.beside.ensures.front c.beside.ensures.back
    (λ l h soon. c.catch.ensures.caught l h (omega (arith, soon, c.front_of.ensures l h)))
    (λ l h soon. c.catch-2.ensures.caught l h (omega (arith, soon, c.back_of.ensures l h)))

pub returns-clause-others : goal.returns-clause-others
returns-clause-others c =
    of_both_parts (λ l x. c.args.depart < slice_index c.args.self l → x ≡ 65535) 32 16 _ _ _
    c.beside.ensures.front c.beside.ensures.back
    (λ l h late. c.catch.ensures.others l h (omega (arith, late, c.front_of.ensures l h)))
    (λ l h late. c.catch-2.ensures.others l h (omega (arith, late, c.back_of.ensures l h)))
