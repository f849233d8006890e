use Rattle.std.proofs.Common.{◌≤◌, arith}
use Rattle.trip_lanes.proofs.LabelsByEights.{in_front, in_back, least_of_both}
use Rattle.trip_lanes.proofs.forty_eight.least_by_eights.Goals as goal

pub returns : goal.returns
returns c =
    let labels = c.args.labels in
    least_of_both 0 4 6 labels _ _ _ (omega arith) (omega arith)
    (in_front (λ a b. a ≤ b) labels _ _ 4 c.front_of.ensures c.least_by_eights.ensures)
    (in_back (λ a b. a ≤ b) labels _ _ 4 2 c.back_of.ensures c.least_by_eights-2.ensures) c.lower_eight.ensures
