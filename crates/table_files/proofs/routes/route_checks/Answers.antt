use Rattle.std.proofs.Common.{map, refl}
use Rattle.std.specs.List.{list_any}
use Rattle.std.specs.Str.{bytes_eq}
use Rattle.table_records.proofs.CheckFacts.{also, by_check, by_others, only}
use Rattle.table_files.specs.Routes.{row_of}
use Rattle.table_files.proofs.routes.route_checks.Goals as goal

pub returns-clause-explains : goal.returns-clause-explains
returns-clause-explains c before header fields =
    let r = row_of header fields in
    also
    (only (by_check 0 refl refl))
    (by_others (list_any (bytes_eq r.id) (map (λ b. b.id) before)) 1 refl refl refl)
