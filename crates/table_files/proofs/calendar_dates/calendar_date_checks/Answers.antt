use Rattle.std.proofs.Common.{refl}
use Rattle.table_records.specs.Fields.{number_of}
use Rattle.table_records.proofs.CheckFacts.{also, by_check, only}
use Rattle.table_files.specs.CalendarDates.{row_of}
use Rattle.table_files.proofs.RuleFacts.{no_choice, no_date}
use Rattle.table_files.proofs.calendar_dates.calendar_date_checks.Goals as goal

pub returns-clause-explains : goal.returns-clause-explains
returns-clause-explains c before header fields =
    let r = row_of header fields in
    also (also
    (only (by_check 0 refl refl))
    (λ bad. by_check 1 refl refl (no_date r.date bad)))
    (λ bad. by_check 2 refl refl (no_choice 2 1 (number_of r.kind) bad))
