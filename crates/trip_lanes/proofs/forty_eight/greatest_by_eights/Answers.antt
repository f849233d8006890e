use Rattle.std.proofs.Common.{◌≤◌, arith}
use Rattle.trip_lanes.proofs.LabelsByEights.{in_front, in_back, greatest_of_both}
use Rattle.trip_lanes.proofs.forty_eight.greatest_by_eights.Goals as goal

pub returns : goal.returns
returns c =
    let labels = c.args.labels in
    greatest_of_both 0 4 6 labels _ _ _ (omega arith) (omega arith)
    (in_front (λ a b. b ≤ a) labels _ _ 4 c.front_of.ensures c.greatest_by_eights.ensures)
    (in_back (λ a b. b ≤ a) labels _ _ 4 2 c.back_of.ensures c.greatest_by_eights-2.ensures) c.higher_eight.ensures
