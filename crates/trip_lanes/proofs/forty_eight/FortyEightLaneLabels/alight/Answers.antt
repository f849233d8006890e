use Rattle.std.proofs.Common.{◌≡◌, ◌≢◌, slice_index, sym, ◌∙◌}
use Rattle.trip_lanes.proofs.LanesSideBySide.{of_both_parts}
use Rattle.trip_lanes.proofs.forty_eight.FortyEightLaneLabels.alight.Goals as goal

pub returns-clause-rides : goal.returns-clause-rides
returns-clause-rides c =
    of_both_parts (λ l x. slice_index c.args.run l ≡ c.args.rank → x ≡ c.args.arrive) 32 16 _ _ _
    c.beside.ensures.front c.beside.ensures.back
    (λ l h on. c.alight.ensures.rides l h (c.front_of-2.ensures l h ∙ on))
    (λ l h on. c.alight-2.ensures.rides l h (c.back_of-2.ensures l h ∙ on))

pub returns-clause-others : goal.returns-clause-others
returns-clause-others c =
    of_both_parts (λ l x. slice_index c.args.run l ≢ c.args.rank → x ≡ slice_index c.args.self l) 32 16 _ _ _
    c.beside.ensures.front c.beside.ensures.back
    (λ l h off. c.alight.ensures.others l h (λ e. off (sym (c.front_of-2.ensures l h) ∙ e))
    ∙ c.front_of.ensures l h)
    (λ l h off. c.alight-2.ensures.others l h (λ e. off (sym (c.back_of-2.ensures l h) ∙ e)) ∙ c.back_of.ensures l h)
