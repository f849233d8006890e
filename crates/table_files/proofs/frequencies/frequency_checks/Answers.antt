use Rattle.std.proofs.Common.{position, refl}
use Rattle.std.specs.Prelude.{is_none}
use Rattle.std.specs.Str.{bytes_eq}
use Rattle.table_records.proofs.CheckFacts.{also, by_check, by_others, only}
use Rattle.table_files.specs.Frequencies.{row_of}
use Rattle.table_files.proofs.RuleFacts.{no_headway}
use Rattle.table_files.proofs.frequencies.frequency_checks.Goals as goal

pub returns-clause-explains : goal.returns-clause-explains
returns-clause-explains c trips before header fields =
    let r = row_of header fields in
    also (also (also (also
    (only (by_check 0 refl refl))
    (by_others (is_none (position (bytes_eq r.trip) trips)) 1 refl refl refl))
    (by_check 2 refl refl))
    (by_check 3 refl refl))
    (λ bad. by_check 4 refl refl (no_headway r.headway bad))
