use Rattle.std.proofs.Common.{◌∙◌, subst, sym}
use Rattle.std.proofs.lemmas.Result.{IfErr-at_err, IfOk-at_ok, err_from_is_err_and}
use Rattle.csv.specs.Records.{fields_of}
use Rattle.table_records.specs.Faults.{Tells}
use Rattle.table_records.specs.Table.{records_of}
use Rattle.table_records.specs.declared.fault.FileName.TheVariants as file
use Rattle.table_files.specs.Places.{checks, required, row_of}
use Rattle.table_files.proofs.PlaceFacts.{are_places}
use Rattle.table_records.proofs.ReadingFacts.{headed, missing}
use Rattle.table_files.proofs.places.read_places.Goals as goal

pub into_places-requires-clause-few : goal.into_places-requires-clause-few
into_places-requires-clause-few c =
    let room = IfOk-at_ok _ c.in-Ok.is c.read_records-read.ensures.room in
    (are_places c.read_records-read.new.table _ (IfOk-at_ok _ c.in-Ok.is c.read_records-read.ensures.good).1 room.few
    room.stops room.stations).2

pub into_places-requires-clause-in_range : goal.into_places-requires-clause-in_range
into_places-requires-clause-in_range c =
    let room = IfOk-at_ok _ c.in-Ok.is c.read_records-read.ensures.room in
    let (same, are, few) = are_places c.read_records-read.new.table _
    (IfOk-at_ok _ c.in-Ok.is c.read_records-read.ensures.good).1 room.few room.stops room.stations in
    rw same are

pub returns-in_ok-into_places-in-Ok-clause-good : goal.returns-in_ok-into_places-in-Ok-clause-good
returns-in_ok-into_places-in-Ok-clause-good c =
    let (faults, rows) = headed file.Stops required row_of checks (records_of c.args.bytes.now)
    (fields_of c.in_ok-file.file.header) c.in_ok-file.file.records
    c.in_ok-file.ensures.columns c.in_ok-file.ensures.records in
    let good = IfOk-at_ok _ c.in-Ok.is (rw c.columns_in.ensures at c.read_records-read.ensures.good) in
    let room = IfOk-at_ok _ c.in-Ok.is c.read_records-read.ensures.room in
    let (same, are, few) = are_places c.read_records-read.new.table _ good.1 room.few room.stops room.stations in
    (faults ∙ good.0, c.in_ok-into_places-in-Ok.ensures ∙ rw rows same)

pub returns-in_err-file-clause-fault : goal.returns-in_err-file-clause-fault
returns-in_err-file-clause-fault c =
    let (e, is, same_error) = err_from_is_err_and c.from_residual.result c.from_residual.ensures.1 in
    rw (is, same_error) (missing file.Stops required row_of checks (records_of c.args.bytes.now) c.in_err-file.field-0.0
    c.in_err-file.ensures.fault)

pub returns-in-Err-clause-fault : goal.returns-in-Err-clause-fault
returns-in-Err-clause-fault c =
    let (faults, rows) = headed file.Stops required row_of checks (records_of c.args.bytes.now)
    (fields_of c.in_ok-file.file.header) c.in_ok-file.file.records
    c.in_ok-file.ensures.columns c.in_ok-file.ensures.records in
    let told = IfErr-at_err _ c.in-Err.is (rw c.columns_in.ensures at c.read_records-read.ensures.fault) in
    subst (Tells c.in-Err.fault) (sym faults) told
