use Rattle.std.proofs.Common.{position, refl}
use Rattle.std.specs.Prelude.{is_none}
use Rattle.std.specs.List.{list_any}
use Rattle.std.specs.Str.{bytes_eq}
use Rattle.table_records.proofs.CheckFacts.{also, by_check, by_others, only}
use Rattle.gtfs_tables.specs.NamedStops.{row_of, stops_named}
use Rattle.gtfs_tables.proofs.opportunities.opportunity_checks.Goals as goal

pub returns-clause-explains : goal.returns-clause-explains
returns-clause-explains c stops before header fields =
    let r = row_of header fields in
    also (also (also
    (only (by_check 0 refl refl))
    (by_others (is_none (position (bytes_eq r.stop) stops)) 1 refl refl refl))
    (by_others (list_any (bytes_eq r.stop) (stops_named before)) 2 refl refl refl))
    (by_check 3 refl refl)
