use Rattle.std.proofs.Common.{◌≤◌, arith}
use Rattle.trip_lanes.proofs.LabelsByEights.{of_part, greatest_of_both}
use Rattle.trip_lanes.proofs.narrow.greatest_by_eights.Goals as goal

pub returns : goal.returns
returns c =
    let labels = c.args.labels in
    let part = of_part (λ a b. b ≤ a) (λ a. omega arith) labels in
    let early = greatest_of_both 0 1 2 labels _ _ _ (omega arith) (omega arith) (part _ 0 c.eight_of.ensures)
    (part _ 1 c.eight_of-2.ensures) c.higher_eight-early.ensures in
    let late = greatest_of_both 2 3 4 labels _ _ _ (omega arith) (omega arith) (part _ 2 c.eight_of-3.ensures)
    (part _ 3 c.eight_of-4.ensures) c.higher_eight-late.ensures in
    greatest_of_both 0 2 4 labels _ _ _ (omega arith) (omega arith) early late c.higher_eight.ensures
