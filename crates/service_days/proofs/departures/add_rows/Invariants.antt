use Rattle.std.proofs.Common.{◌≡◌, ◌++◌, take}
use Rattle.std.specs.List.{flat_map}
use Rattle.service_days.specs.Instances.{runs_of_row}
use Rattle.service_days.proofs.departures.add_rows.Given as goal

abbrev pub invariant-loop-row : goal.invariant-loop-row
invariant-loop-row l = l.runs ≡ l.fn.runs ++ flat_map (runs_of_row l.base l.trip l.first) (take l.row-index l.rows)
