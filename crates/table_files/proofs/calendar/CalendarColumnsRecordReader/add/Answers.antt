use Rattle.std.proofs.Common.{◌≡◌, ◌∙◌, false, true, None, Some, inl, refl, sym}
use Rattle.std.specs.List.{list_any}
use Rattle.std.specs.Str.{bytes_eq}
use Rattle.csv.specs.Records.{fields_of}
use Rattle.std.proofs.lemmas.Result.{err_from_is_err_and}
use Rattle.table_records.specs.Fields.{is_empty}
use Rattle.table_records.specs.declared.fault.FileName.TheVariants as file
use Rattle.table_records.specs.declared.fault.What.TheVariants as what
use Rattle.table_files.specs.Calendar.{ServiceRow, checks, days_of, row_at}
use Rattle.table_files.specs.Days.{date_of, day_number}
use Rattle.table_files.proofs.CalendarFacts.{calendar_more, date_is, no_fault}
use Rattle.table_records.proofs.RowFacts.{is_old, tells_row}
use Rattle.table_files.proofs.NewIds.{empty_length, is_new}
use Rattle.table_files.proofs.calendar.CalendarColumnsRecordReader.add.Goals as goal

pub returns-clause-good : goal.returns-clause-good
returns-clause-good c start before at is =
    let r : ServiceRow = row_at c.args.self.now (fields_of c.args.row.now) in
    let id = c.field-id.ensures in
    let some : is_empty r.service ≡ false = rw id at (sym (empty_length c.field-id.result.now) ∙ sym c.is_empty.ensures
    ∙ c.if-is_empty.false) in
    let new : list_any (bytes_eq r.service) c.args.table.now.services ≡ false =
    rw id at (is_new c.in_ok-push.field-0 c.if-not-branch.false _ c.in_ok-push.ensures.added) in
    let services = rw (c.if-not-branch.false, id) at c.in_ok-push.ensures.ids in
    let first : Some (day_number c.in-Some-read_date.first) ≡ date_of r.first =
    date_is (Some c.in-Some-read_date.first) r.first (rw c.field.ensures at c.in-Some-read_date.ensures) in
    let last : Some (day_number c.in-Some-read_date-2.last) ≡ date_of r.last =
    date_is (Some c.in-Some-read_date-2.last) r.last (rw c.field-2.ensures at c.in-Some-read_date-2.ensures) in (
      no_fault before r c.in-Some.days (day_number c.in-Some-read_date.first) (day_number c.in-Some-read_date-2.last)
          some (rw is.services at new) c.in-Some.ensures first last,
      calendar_more c.args.table.now _ before r _ is new services c.in_ok-push-2.ensures.items c.len-service.ensures.len
          c.in-Some.ensures first last,
    )

pub returns-then-is_empty-clause-fault : goal.returns-then-is_empty-clause-fault
returns-then-is_empty-clause-fault c start before at is =
    let r : ServiceRow = row_at c.args.self.now (fields_of c.args.row.now) in
    let none : is_empty r.service ≡ true = rw c.field-id.ensures at (sym (empty_length c.field-id.result.now)
    ∙ sym c.is_empty.ensures ∙ c.if-is_empty.true) in
    tells_row file.Calendar checks before r what.EmptyId c.at.result c.args.at c.at.ensures at (rw none refl)

pub returns-in_err-push-clause-fault : goal.returns-in_err-push-clause-fault
returns-in_err-push-clause-fault c =
    let (e, is, memory) = err_from_is_err_and c.from_residual.result c.from_residual.ensures.1 in
    rw is (λ start before at are. inl memory)

pub returns-then-not-branch-clause-fault : goal.returns-then-not-branch-clause-fault
returns-then-not-branch-clause-fault c start before at is =
    let r : ServiceRow = row_at c.args.self.now (fields_of c.args.row.now) in
    let id = c.field-id.ensures in
    let some : is_empty r.service ≡ false = rw id at (sym (empty_length c.field-id.result.now) ∙ sym c.is_empty.ensures
    ∙ c.if-is_empty.false) in
    let old : list_any (bytes_eq r.service) c.args.table.now.services ≡ true =
    rw id at (is_old c.in_ok-push.field-0 c.if-not-branch.true _ c.in_ok-push.ensures.added) in
    let again = rw is.services at old in
    tells_row file.Calendar checks before r what.DuplicateId c.at-then-not-branch.result
    c.args.at c.at-then-not-branch.ensures at (rw (some, again) refl)

pub returns-in_default-clause-fault : goal.returns-in_default-clause-fault
returns-in_default-clause-fault c start before at is =
    let r : ServiceRow = row_at c.args.self.now (fields_of c.args.row.now) in
    let id = c.field-id.ensures in
    let some : is_empty r.service ≡ false = rw id at (sym (empty_length c.field-id.result.now) ∙ sym c.is_empty.ensures
    ∙ c.if-is_empty.false) in
    let new : list_any (bytes_eq r.service) c.args.table.now.services ≡ false =
    rw id at (is_new c.in_ok-push.field-0 c.if-not-branch.false _ c.in_ok-push.ensures.added) in
    let apart = rw is.services at new in
    let none : None ≡ days_of r.days = c.in_default.ensures in
    tells_row file.Calendar checks before r what.BadNumber c.at-in_default.result
    c.args.at c.at-in_default.ensures at (rw (some, apart, ← none) refl)

pub returns-in_default-read_date-clause-fault : goal.returns-in_default-read_date-clause-fault
returns-in_default-read_date-clause-fault c start before at is =
    let r : ServiceRow = row_at c.args.self.now (fields_of c.args.row.now) in
    let id = c.field-id.ensures in
    let some : is_empty r.service ≡ false = rw id at (sym (empty_length c.field-id.result.now) ∙ sym c.is_empty.ensures
    ∙ c.if-is_empty.false) in
    let new : list_any (bytes_eq r.service) c.args.table.now.services ≡ false =
    rw id at (is_new c.in_ok-push.field-0 c.if-not-branch.false _ c.in_ok-push.ensures.added) in
    let apart = rw is.services at new in
    let days : Some c.in-Some.days ≡ days_of r.days = c.in-Some.ensures in
    let none : None ≡ date_of r.first = date_is None r.first (rw c.field.ensures at c.in_default-read_date.ensures) in
    tells_row file.Calendar checks before r what.BadDate c.at-in_default-read_date.result
    c.args.at c.at-in_default-read_date.ensures at (rw (some, apart, ← days, ← none) refl)

pub returns-in_default-read_date-2-clause-fault : goal.returns-in_default-read_date-2-clause-fault
returns-in_default-read_date-2-clause-fault c start before at is =
    let r : ServiceRow = row_at c.args.self.now (fields_of c.args.row.now) in
    let id = c.field-id.ensures in
    let some : is_empty r.service ≡ false = rw id at (sym (empty_length c.field-id.result.now) ∙ sym c.is_empty.ensures
    ∙ c.if-is_empty.false) in
    let new : list_any (bytes_eq r.service) c.args.table.now.services ≡ false =
    rw id at (is_new c.in_ok-push.field-0 c.if-not-branch.false _ c.in_ok-push.ensures.added) in
    let apart = rw is.services at new in
    let days : Some c.in-Some.days ≡ days_of r.days = c.in-Some.ensures in
    let first : Some (day_number c.in-Some-read_date.first) ≡ date_of r.first =
    date_is (Some c.in-Some-read_date.first) r.first (rw c.field.ensures at c.in-Some-read_date.ensures) in
    let none : None ≡ date_of r.last = date_is None r.last (rw c.field-2.ensures at c.in_default-read_date-2.ensures) in
    tells_row file.Calendar checks before r what.BadDate c.at-in_default-read_date-2.result
    c.args.at c.at-in_default-read_date-2.ensures at (rw (some, apart, ← days, ← first, ← none) refl)

pub returns-in_err-push-2-clause-fault : goal.returns-in_err-push-2-clause-fault
returns-in_err-push-2-clause-fault c =
    let (e, is, memory) = err_from_is_err_and c.from_residual-in_err-push-2.result
    c.from_residual-in_err-push-2.ensures.1 in
    rw is (λ start before at are. inl memory)
