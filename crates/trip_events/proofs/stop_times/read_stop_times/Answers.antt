use Rattle.std.proofs.Common.{◌∙◌, [], List, length, replicate, arith, ap, sym, subst}
use Rattle.std.proofs.lemmas.List.Sums.{count_by-le-length}
use Rattle.std.proofs.lemmas.Result.{IfOk-weaker, err_from_is_err_and}
use Rattle.csv.specs.Records.{fields_of}
use Rattle.table_records.proofs.FaultFacts.{tells_more}
use Rattle.table_records.proofs.ReadingFacts.{headed, missing}
use Rattle.table_records.specs.Faults.{Tells}
use Rattle.table_records.specs.Table.{records_of}
use Rattle.table_records.specs.declared.fault.FileName.TheVariants as file
use Rattle.trip_events.specs.StopTimes.{checks, required, row_of}
use Rattle.trip_events.specs.WholeTrips.{AreEvents, is_aside}
use Rattle.trip_events.specs.declared.trip_times.StopTime.{StopTime}
use Rattle.trip_events.proofs.EventFacts.{are_events}
use Rattle.trip_events.proofs.TimeFacts.{no_stop_times, read_whole}
use Rattle.trip_events.proofs.stop_times.read_stop_times.Goals as goal

pub read_records-read-requires-clause-empty : goal.read_records-read-requires-clause-empty
read_records-read-requires-clause-empty c =
    no_stop_times c.args.trips.now c.args.stops.now _ (c.in_ok-no_records.ensures
    ∙ ap (λ n. replicate {A = List StopTime} n []) c.len.ensures.len)

pub returns-in_err-file-clause-fault : goal.returns-in_err-file-clause-fault
returns-in_err-file-clause-fault c =
    let (e, is, same_error) = err_from_is_err_and c.from_residual-in_err-file.result
    c.from_residual-in_err-file.ensures.1 in
    rw (is, same_error) (tells_more c.in_err-file.field-0.0 _ _
    (missing file.StopTimes required row_of (checks c.args.trips.now c.args.stops.now) (records_of c.args.bytes.now)
    c.in_err-file.field-0.0 c.in_err-file.ensures.fault))

pub returns-in_err-read-clause-fault : goal.returns-in_err-read-clause-fault
returns-in_err-read-clause-fault c =
    let (e, is, same_error) = err_from_is_err_and c.from_residual-in_err-read.result
    c.from_residual-in_err-read.ensures.1 in
    let (faults, rows) = headed file.StopTimes required row_of (checks c.args.trips.now c.args.stops.now)
    (records_of c.args.bytes.now) (fields_of c.in_ok-file.file.header) c.in_ok-file.file.records
    c.in_ok-file.ensures.columns c.in_ok-file.ensures.records in
    let told = rw c.columns_in.ensures at c.in_err-read.ensures.fault in
    rw (is, same_error) (tells_more c.in_err-read.field-0.0 _ _
    (subst (Tells c.in_err-read.field-0.0) (sym faults) told))

pub returns-clause-good : goal.returns-clause-good
returns-clause-good c =
    let (faults, rows) = headed file.StopTimes required row_of (checks c.args.trips.now c.args.stops.now)
    (records_of c.args.bytes.now) (fields_of c.in_ok-file.file.header) c.in_ok-file.file.records
    c.in_ok-file.ensures.columns c.in_ok-file.ensures.records in
    let good = rw c.columns_in.ensures at c.in_ok-read.ensures.good in
    IfOk-weaker c.events_of_trips.result _ _
    (λ t h. read_whole c.args.trips.now c.args.stops.now _ _ _ _ _ _ (faults ∙ good.0) rows good.1 h.0 h.1 h.2)
    c.events_of_trips.ensures.good

pub returns-clause-fit : goal.returns-clause-fit
returns-clause-fit c =
    let is = c.in_ok-read.ensures.good.1 in
    IfOk-weaker c.events_of_trips.result _ _
    (λ t h. subst (AreEvents (length c.args.stops.now)) (sym h.1)
    (are_events (length c.args.stops.now) _ c.read_records-read.new.table.trips.items is.total is.few is.sound
    h.0))
    c.events_of_trips.ensures.good

pub returns-clause-few : goal.returns-clause-few
returns-clause-few c =
    let all = c.read_records-read.new.table.trips.items in
    let size = c.in_ok-read.ensures.room.1 in
    IfOk-weaker c.events_of_trips.result _ _ (λ t h. let most = count_by-le-length is_aside all in
    omega (arith, h.2, most, size)) c.events_of_trips.ensures.good
