use Rattle.std.proofs.Common.{◌≡◌, ◌≢◌, slice_index, sym, ◌∙◌}
use Rattle.trip_lanes.proofs.LanesSideBySide.{of_both_parts}
use Rattle.trip_lanes.proofs.forty_eight.ridden.Goals as goal

pub returns-clause-ranks : goal.returns-clause-ranks
returns-clause-ranks c =
    of_both_parts (λ l x. slice_index c.args.run l ≢ 65535 → x ≡ slice_index c.args.run l) 32 16 _ _ _
    c.beside.ensures.front c.beside.ensures.back
    (λ l h on. c.ridden.ensures.ranks l h (λ e. on (sym (c.front_of.ensures l h) ∙ e)) ∙ c.front_of.ensures l h)
    (λ l h on. c.ridden-2.ensures.ranks l h (λ e. on (sym (c.back_of.ensures l h) ∙ e)) ∙ c.back_of.ensures l h)

pub returns-clause-others : goal.returns-clause-others
returns-clause-others c =
    of_both_parts (λ l x. slice_index c.args.run l ≡ 65535 → x ≡ 0) 32 16 _ _ _
    c.beside.ensures.front c.beside.ensures.back
    (λ l h off. c.ridden.ensures.others l h (c.front_of.ensures l h ∙ off))
    (λ l h off. c.ridden-2.ensures.others l h (c.back_of.ensures l h ∙ off))
