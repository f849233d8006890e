use Rattle.std.proofs.Common.{◌≤◌, arith}
use Rattle.trip_lanes.proofs.LabelsByEights.{of_part, least_of_both}
use Rattle.trip_lanes.proofs.sixteen.least_by_eights.Goals as goal

pub returns : goal.returns
returns c =
    let labels = c.args.labels in
    let part = of_part (λ a b. a ≤ b) (λ a. omega arith) labels in
    least_of_both 0 1 2 labels _ _ _ (omega arith) (omega arith) (part _ 0 c.eight_of.ensures)
    (part _ 1 c.eight_of-2.ensures) c.lower_eight.ensures
