use Rattle.std.proofs.Common.{◌∙◌, arith, subst, sym}
use Rattle.std.proofs.lemmas.Result.{err_from_is_err_and}
use Rattle.csv.specs.Records.{fields_of}
use Rattle.table_records.specs.Faults.{Tells}
use Rattle.table_records.specs.Table.{records_of}
use Rattle.table_records.specs.declared.fault.FileName.TheVariants as file
use Rattle.table_files.specs.CalendarDates.{checks, required, row_of, AreExceptions}
use Rattle.table_records.proofs.TableFacts.{fault_told, table_given}
use Rattle.table_records.proofs.ReadingFacts.{headed, missing}
use Rattle.table_files.proofs.calendar_dates.read_calendar_dates.Goals as goal

pub returns-in_err-file-clause-fault : goal.returns-in_err-file-clause-fault
returns-in_err-file-clause-fault c =
    let (e, is, same_error) = err_from_is_err_and c.from_residual.result c.from_residual.ensures.1 in
    rw (is, same_error) (missing file.CalendarDates required row_of checks (records_of c.args.bytes.now)
    c.in_err-file.field-0.0 c.in_err-file.ensures.fault)

pub returns-clause-fault : goal.returns-clause-fault
returns-clause-fault c =
    let (faults, rows) = headed file.CalendarDates required row_of checks (records_of c.args.bytes.now)
    (fields_of c.in_ok-file.file.header) c.in_ok-file.file.records
    c.in_ok-file.ensures.columns c.in_ok-file.ensures.records in
    let told = rw c.columns_in.ensures at c.read_records-read.ensures.fault in
    fault_told c.read_records-read.result c.read_records-read.new.table c.and.result _ _ c.and.ensures told
    (λ e t. subst (Tells e) (sym faults) t)

pub returns-clause-good : goal.returns-clause-good
returns-clause-good c =
    let (faults, rows) = headed file.CalendarDates required row_of checks (records_of c.args.bytes.now)
    (fields_of c.in_ok-file.file.header) c.in_ok-file.file.records
    c.in_ok-file.ensures.columns c.in_ok-file.ensures.records in
    let good = rw c.columns_in.ensures at c.read_records-read.ensures.good in
    table_given c.read_records-read.result c.read_records-read.new.table c.and.result _ _ c.and.ensures good
    (λ _ g. (faults ∙ g.0, subst (AreExceptions c.args.services c.read_records-read.new.table) (sym rows) g.1))

pub returns-clause-few : goal.returns-clause-few
returns-clause-few c =
    let few = c.in_ok-file.ensures.few in
    table_given c.read_records-read.result c.read_records-read.new.table c.and.result _ _ c.and.ensures
    c.read_records-read.ensures.room (λ _ room. omega (arith, room, few))
