use Rattle.std.proofs.Common.{◌≤◌, arith}
use Rattle.trip_lanes.proofs.LabelsByEights.{ge_trans}
use Rattle.trip_lanes.proofs.TurnedEights.{higher_half, left_bounds, left_is_one}
use Rattle.trip_lanes.proofs.eights.greatest_of_eight.Goals as goal

pub returns-clause-above : goal.returns-clause-above
returns-clause-above c =
    left_bounds (λ a b. b ≤ a) (λ a. omega arith) ge_trans c.args.eight _ _ _
    (higher_half 4 _ _ _ (omega arith) c.by_four.ensures c.higher_eight-four.ensures)
    (higher_half 2 _ _ _ (omega arith) c.by_two.ensures c.higher_eight-two.ensures)
    (higher_half 1 _ _ _ (omega arith) c.by_one.ensures c.higher_eight-one.ensures)

pub returns-clause-some : goal.returns-clause-some
returns-clause-some c =
    left_is_one (λ a b. b ≤ a) c.args.eight _ _ _
    (higher_half 4 _ _ _ (omega arith) c.by_four.ensures c.higher_eight-four.ensures)
    (higher_half 2 _ _ _ (omega arith) c.by_two.ensures c.higher_eight-two.ensures)
    (higher_half 1 _ _ _ (omega arith) c.by_one.ensures c.higher_eight-one.ensures)
