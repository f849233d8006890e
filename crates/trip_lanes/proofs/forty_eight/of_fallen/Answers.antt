use Rattle.std.proofs.Common.{◌≡◌, ◌<◌, slice_index, arith, ◌∙◌}
use Rattle.trip_lanes.proofs.LanesSideBySide.{of_both_parts}
use Rattle.trip_lanes.proofs.forty_eight.of_fallen.Goals as goal

pub returns : goal.returns
returns c =
    of_both_parts (λ l x. slice_index c.args.ready l < slice_index c.args.before l → x ≡ slice_index c.args.labels l)
    32 16 _ _ _ c.beside.ensures.front c.beside.ensures.back
    (λ l h fell. c.of_fallen.ensures l h (omega (arith, fell, c.front_of.ensures l h, c.front_of-2.ensures l h))
    ∙ c.front_of-3.ensures l h)
    (λ l h fell. c.of_fallen-2.ensures l h (omega (arith, fell, c.back_of.ensures l h, c.back_of-2.ensures l h))
    ∙ c.back_of-3.ensures l h)
