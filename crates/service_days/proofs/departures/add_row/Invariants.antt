use Rattle.std.proofs.Common.{◌≡◌, ◌++◌, ◌+◌, ◌*◌, map}
use Rattle.std.specs.List.{range_with_len}
use Rattle.service_days.specs.Instances.{departing}
use Rattle.service_days.proofs.departures.add_row.Given as goal

abbrev pub invariant-loop-x : goal.invariant-loop-x
invariant-loop-x l = l.runs ≡ l.fn.runs ++ map (departing l.base l.trip l.first)
    (map (λ x. l.row.start + x * l.row.headway) (range_with_len 0 l.x))
