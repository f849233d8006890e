use Rattle.std.proofs.Common.{◌≤◌, arith}
use Rattle.trip_lanes.proofs.LabelsByEights.{of_part, least_of_both}
use Rattle.trip_lanes.proofs.narrow.least_by_eights.Goals as goal

pub returns : goal.returns
returns c =
    let labels = c.args.labels in
    let part = of_part (λ a b. a ≤ b) (λ a. omega arith) labels in
    let early = least_of_both 0 1 2 labels _ _ _ (omega arith) (omega arith) (part _ 0 c.eight_of.ensures)
    (part _ 1 c.eight_of-2.ensures) c.lower_eight-early.ensures in
    let late = least_of_both 2 3 4 labels _ _ _ (omega arith) (omega arith) (part _ 2 c.eight_of-3.ensures)
    (part _ 3 c.eight_of-4.ensures) c.lower_eight-late.ensures in
    least_of_both 0 2 4 labels _ _ _ (omega arith) (omega arith) early late c.lower_eight.ensures
