use Rattle.std.proofs.Common.{refl}
use Rattle.std.proofs.lemmas.Result.{err_from_is_err_and}
use Rattle.service_days.specs.Instances.{runs_of_row}
use Rattle.service_days.proofs.RunLists.{fault_of_part}
use Rattle.service_days.proofs.departures.add_rows.Goals as goal

pub returns-in_err-add_row-clause-fault : goal.returns-in_err-add_row-clause-fault
returns-in_err-add_row-clause-fault c =
    let p = err_from_is_err_and c.from_residual.result c.from_residual.ensures.1 in
    rw (p.1, p.2) (fault_of_part (runs_of_row c.args.base c.args.trip c.args.first) c.args.rows.now c.loop-row.row-index
    (record { start = 0; end = 0; headway = 0 }) _ c.loop-row-test.true refl
    c.args.runs.now c.loop-row.runs c.loop-row.invariant c.in_err-add_row.field-0.0 c.in_err-add_row.ensures.fault)
