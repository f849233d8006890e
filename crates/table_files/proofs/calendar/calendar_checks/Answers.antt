use Rattle.std.proofs.Common.{map, refl}
use Rattle.std.specs.List.{list_any}
use Rattle.std.specs.Str.{bytes_eq}
use Rattle.table_records.proofs.CheckFacts.{also, by_check, by_others, only}
use Rattle.table_files.specs.Calendar.{row_of}
use Rattle.table_files.proofs.RuleFacts.{HasNoFlag, no_date, no_day, one_flag}
use Rattle.table_files.proofs.calendar.calendar_checks.Goals as goal

pub returns-clause-explains : goal.returns-clause-explains
returns-clause-explains c before header fields =
    let r = row_of header fields in
    also (also (also (also
    (only (by_check 0 refl refl))
    (by_others (list_any (bytes_eq r.service) (map (λ b. b.service) before)) 1 refl refl refl))
    (λ bad. let monday : HasNoFlag r.days = record { bad = bad } in
    one_flag monday (by_check 2 refl refl) (λ tuesday.
    one_flag tuesday (by_check 3 refl refl) (λ wednesday.
    one_flag wednesday (by_check 4 refl refl) (λ thursday.
    one_flag thursday (by_check 5 refl refl) (λ friday.
    one_flag friday (by_check 6 refl refl) (λ saturday.
    one_flag saturday (by_check 7 refl refl) (λ sunday.
    one_flag sunday (by_check 8 refl refl) no_day))))))))
    (λ bad. by_check 9 refl refl (no_date r.first bad)))
    (λ bad. by_check 10 refl refl (no_date r.last bad))
