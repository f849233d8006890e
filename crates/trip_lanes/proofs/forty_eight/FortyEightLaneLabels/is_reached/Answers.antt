use Rattle.std.proofs.Common.{◌≢◌, ◌+◌, slice_index, arith, sym, ◌∙◌}
use Rattle.trip_lanes.proofs.LanesSideBySide.{of_each_part, and_holds, and_by_both}
use Rattle.trip_lanes.proofs.forty_eight.FortyEightLaneLabels.is_reached.Goals as goal

pub returns : goal.returns
returns c =
    let label_front = c.front_of.ensures in
    let start_front = c.front_of-2.ensures in
    let label_back = c.back_of.ensures in
    let start_back = c.back_of-2.ensures in (
      λ whole.
          let both = and_holds _ _ whole in
          of_each_part (λ l. slice_index c.args.departs l ≢ 65535 → slice_index c.args.self l ≢ 65535) 32 16
          (λ l h live far. c.is_reached.ensures.0 both.0 l h (λ e. live (sym (start_front l h) ∙ e))
          (label_front l h ∙ far))
          (λ l h live far. c.is_reached-2.ensures.0 both.1 l h (λ e. live (sym (start_back l h) ∙ e))
          (label_back l h ∙ far)),
      λ each. and_by_both _ _
          (c.is_reached.ensures.1 (λ l h live far. each l (omega (arith, h)) (λ e. live (start_front l h ∙ e))
          (sym (label_front l h) ∙ far)))
          (c.is_reached-2.ensures.1 (λ l h live far. each (32 + l) (omega (arith, h))
          (λ e. live (start_back l h ∙ e)) (sym (label_back l h) ∙ far))),
    )
