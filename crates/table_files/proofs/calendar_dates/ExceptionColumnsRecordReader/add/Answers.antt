use Rattle.std.proofs.Common.{◌≡◌, ◌∙◌, false, Some, sym, true, None, inl, refl}
use Rattle.std.proofs.lemmas.Result.{err_from_is_err_and}
use Rattle.csv.specs.Records.{fields_of}
use Rattle.table_records.specs.declared.fault.FileName.TheVariants as file
use Rattle.table_records.specs.declared.fault.What.TheVariants as what
use Rattle.table_records.specs.Fields.{is_empty}
use Rattle.table_files.specs.CalendarDates.{DateRow, checks, row_at}
use Rattle.table_files.specs.Days.{adds_of, date_of, day_number}
use Rattle.table_records.proofs.RowFacts.{tells_row}
use Rattle.table_files.proofs.CalendarFacts.{date_is}
use Rattle.table_files.proofs.CalendarDateFacts.{exceptions_more, no_fault}
use Rattle.table_files.proofs.NewIds.{empty_length}
use Rattle.table_files.proofs.calendar_dates.ExceptionColumnsRecordReader.add.Goals as goal

pub returns-clause-good : goal.returns-clause-good
returns-clause-good c start before at is =
    let r : DateRow = row_at c.args.self.now (fields_of c.args.row.now) in
    let id = c.field-id.ensures in
    let some : is_empty r.service ≡ false = rw id at (sym (empty_length c.field-id.result.now) ∙ sym c.is_empty.ensures
    ∙ c.if-is_empty.false) in
    let date : Some (day_number c.in-Some.date) ≡ date_of r.date =
    date_is (Some c.in-Some.date) r.date (rw c.field.ensures at c.in-Some.ensures) in
    let adds : Some c.in-Some-read_adds.adds ≡ adds_of r.kind = rw c.field-2.ensures at c.in-Some-read_adds.ensures in (
      no_fault before r (day_number c.in-Some.date) c.in-Some-read_adds.adds some date adds,
      exceptions_more start.services c.args.table.now _ before r _ is (rw id at c.in_ok-service.ensures.named)
          c.in_ok-push.ensures.items (rw id at c.in_ok-service.ensures.number) date adds,
    )

pub returns-then-is_empty-clause-fault : goal.returns-then-is_empty-clause-fault
returns-then-is_empty-clause-fault c start before at is =
    let r : DateRow = row_at c.args.self.now (fields_of c.args.row.now) in
    let none : is_empty r.service ≡ true = rw c.field-id.ensures at (sym (empty_length c.field-id.result.now)
    ∙ sym c.is_empty.ensures ∙ c.if-is_empty.true) in
    tells_row file.CalendarDates checks before r what.EmptyId c.at.result c.args.at c.at.ensures at (rw none refl)

pub returns-in_default-clause-fault : goal.returns-in_default-clause-fault
returns-in_default-clause-fault c start before at is =
    let r : DateRow = row_at c.args.self.now (fields_of c.args.row.now) in
    let some : is_empty r.service ≡ false = rw c.field-id.ensures at (sym (empty_length c.field-id.result.now)
    ∙ sym c.is_empty.ensures ∙ c.if-is_empty.false) in
    let none : None ≡ date_of r.date = date_is None r.date (rw c.field.ensures at c.in_default.ensures) in
    tells_row file.CalendarDates checks before r what.BadDate c.at-in_default.result
    c.args.at c.at-in_default.ensures at (rw (some, ← none) refl)

pub returns-in_default-read_adds-clause-fault : goal.returns-in_default-read_adds-clause-fault
returns-in_default-read_adds-clause-fault c start before at is =
    let r : DateRow = row_at c.args.self.now (fields_of c.args.row.now) in
    let some : is_empty r.service ≡ false = rw c.field-id.ensures at (sym (empty_length c.field-id.result.now)
    ∙ sym c.is_empty.ensures ∙ c.if-is_empty.false) in
    let date : Some (day_number c.in-Some.date) ≡ date_of r.date =
    date_is (Some c.in-Some.date) r.date (rw c.field.ensures at c.in-Some.ensures) in
    let none : None ≡ adds_of r.kind = rw c.field-2.ensures at c.in_default-read_adds.ensures in
    tells_row file.CalendarDates checks before r what.BadNumber c.at-in_default-read_adds.result
    c.args.at c.at-in_default-read_adds.ensures at (rw (some, ← date, ← none) refl)

pub returns-in_err-service-clause-fault : goal.returns-in_err-service-clause-fault
returns-in_err-service-clause-fault c =
    let (e, is, memory) = err_from_is_err_and c.from_residual.result c.from_residual.ensures.1 in
    rw is (λ start before at are. inl memory)

pub returns-in_err-push-clause-fault : goal.returns-in_err-push-clause-fault
returns-in_err-push-clause-fault c =
    let (e, is, memory) = err_from_is_err_and c.from_residual-in_err-push.result c.from_residual-in_err-push.ensures.1
    in
    rw is (λ start before at are. inl memory)
