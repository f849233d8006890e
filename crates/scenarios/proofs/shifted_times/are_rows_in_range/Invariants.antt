use Rattle.std.proofs.Common.{◌≡◌, take, true}
use Rattle.std.specs.List.{list_all}
use Rattle.service_days.specs.Instances.{departures_of}
use Rattle.scenarios.specs.ShiftedTimes.{is_departure_in_range}
use Rattle.scenarios.proofs.shifted_times.are_rows_in_range.Given as goal

abbrev pub invariant-loop-row : goal.invariant-loop-row
invariant-loop-row l =
    list_all (λ row. list_all (is_departure_in_range l.fn.seconds l.length) (departures_of row))
    (take l.row-index l.rows) ≡ true
