use Rattle.std.proofs.Common.{◌≡◌, ◌++◌, ◌+◌, ◌*◌, take}
use Rattle.std.specs.List.{flat_map, range_with_len}
use Rattle.service_days.specs.Instances.{runs_of_day}
use Rattle.service_days.proofs.instances.add_days.Given as goal

abbrev pub invariant-loop-x : goal.invariant-loop-x
invariant-loop-x l = l.runs ≡ l.fn.runs ++ flat_map (λ x. runs_of_day l.feed (l.first + x) (86400 * x))
    (take l.x (range_with_len 0 l.days))
