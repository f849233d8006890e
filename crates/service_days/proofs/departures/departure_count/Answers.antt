use Rattle.std.proofs.Common.{arith}
use Rattle.service_days.proofs.DepartureCounts.{departures_by_count, departures_by_quotient}
use Rattle.service_days.proofs.departures.departure_count.Goals as goal

pub returns-then-row-clause-departures : goal.returns-then-row-clause-departures
returns-then-row-clause-departures c = departures_by_count c.args.row.now 0 c.requires (λ x l. absurd (omega arith))
    (omega arith)

pub returns-clause-departures : goal.returns-clause-departures
returns-clause-departures c = departures_by_quotient c.args.row.now c.requires c.if-row.false
