use Rattle.std.proofs.Common.{◌≤◌}
use Rattle.trip_lanes.proofs.LabelsByEights.{each_label, some_label, ge_trans}
use Rattle.trip_lanes.proofs.narrow.greatest.Goals as goal

pub returns-clause-above : goal.returns-clause-above
returns-clause-above c =
    each_label (λ a b. b ≤ a) ge_trans 4 c.args.labels _ _
    c.greatest_by_eights.ensures c.greatest_of_eight.ensures.above

pub returns-clause-some : goal.returns-clause-some
returns-clause-some c =
    some_label (λ a b. b ≤ a) 4 c.args.labels _ _
    c.greatest_by_eights.ensures c.greatest_of_eight.ensures.some
