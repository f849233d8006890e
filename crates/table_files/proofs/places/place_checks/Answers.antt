use Rattle.std.proofs.Common.{length, map, nat_le, refl}
use Rattle.std.specs.List.{list_any}
use Rattle.std.specs.Str.{bytes_eq}
use Rattle.table_records.proofs.CheckFacts.{also, by_check, by_limit, by_others, only}
use Rattle.table_files.specs.Places.{row_of}
use Rattle.table_files.proofs.RuleFacts.{no_kind}
use Rattle.table_files.proofs.places.place_checks.Goals as goal

pub returns-clause-explains : goal.returns-clause-explains
returns-clause-explains c before header fields =
    let r = row_of header fields in
    also (also (also
    (only (by_limit (nat_le 65535 (length before))))
    (by_check 0 refl refl))
    (by_others (list_any (bytes_eq r.id) (map (λ b. b.id) before)) 1 refl refl refl))
    (λ bad. by_check 2 refl refl (no_kind r.kind bad))
