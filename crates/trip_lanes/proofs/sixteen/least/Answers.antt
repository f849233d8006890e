use Rattle.std.proofs.Common.{◌≤◌}
use Rattle.trip_lanes.proofs.LabelsByEights.{each_label, some_label, le_trans}
use Rattle.trip_lanes.proofs.sixteen.least.Goals as goal

pub returns-clause-below : goal.returns-clause-below
returns-clause-below c =
    each_label (λ a b. a ≤ b) le_trans 2 c.args.labels _ _
    c.least_by_eights.ensures c.least_of_eight.ensures.below

pub returns-clause-some : goal.returns-clause-some
returns-clause-some c =
    some_label (λ a b. a ≤ b) 2 c.args.labels _ _
    c.least_by_eights.ensures c.least_of_eight.ensures.some
