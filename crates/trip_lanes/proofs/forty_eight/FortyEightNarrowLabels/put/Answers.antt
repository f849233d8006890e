use Rattle.std.proofs.Common.{◌≡◌, ◌+◌, inl, slice_index, arith, ◌∙◌}
use Rattle.trip_lanes.proofs.LanesSideBySide.{of_each_part}
use Rattle.trip_lanes.proofs.forty_eight.FortyEightNarrowLabels.put.Goals as goal

pub returns-clause-put : goal.returns-clause-put
returns-clause-put c =
    of_each_part (λ l. slice_index c.put-2.new.found (c.args.at + l) ≡ slice_index c.args.self l) 32 16
    (λ l h. c.put-2.ensures.kept (c.args.at + l) (inl (omega (arith, h)))
    ∙ (c.put.ensures.put l h ∙ c.front_of.ensures l h))
    (λ l h.
    let place : c.args.at + (32 + l) ≡ c.args.at + 32 + l = omega arith in
    rw place (c.put-2.ensures.put l h ∙ c.back_of.ensures l h))
