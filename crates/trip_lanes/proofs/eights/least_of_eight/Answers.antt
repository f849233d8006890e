use Rattle.std.proofs.Common.{◌≤◌, arith}
use Rattle.trip_lanes.proofs.LabelsByEights.{le_trans}
use Rattle.trip_lanes.proofs.TurnedEights.{lower_half, left_bounds, left_is_one}
use Rattle.trip_lanes.proofs.eights.least_of_eight.Goals as goal

pub returns-clause-below : goal.returns-clause-below
returns-clause-below c =
    left_bounds (λ a b. a ≤ b) (λ a. omega arith) le_trans c.args.eight _ _ _
    (lower_half 4 _ _ _ (omega arith) c.by_four.ensures c.lower_eight-four.ensures)
    (lower_half 2 _ _ _ (omega arith) c.by_two.ensures c.lower_eight-two.ensures)
    (lower_half 1 _ _ _ (omega arith) c.by_one.ensures c.lower_eight-one.ensures)

pub returns-clause-some : goal.returns-clause-some
returns-clause-some c =
    left_is_one (λ a b. a ≤ b) c.args.eight _ _ _
    (lower_half 4 _ _ _ (omega arith) c.by_four.ensures c.lower_eight-four.ensures)
    (lower_half 2 _ _ _ (omega arith) c.by_two.ensures c.lower_eight-two.ensures)
    (lower_half 1 _ _ _ (omega arith) c.by_one.ensures c.lower_eight-one.ensures)
