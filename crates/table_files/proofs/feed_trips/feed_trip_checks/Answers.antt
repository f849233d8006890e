use Rattle.std.proofs.Common.{length, map, nat_le, position, refl}
use Rattle.std.specs.Prelude.{is_none}
use Rattle.std.specs.List.{list_any}
use Rattle.std.specs.Str.{bytes_eq}
use Rattle.table_records.proofs.CheckFacts.{also, by_check, by_limit, by_others, only}
use Rattle.table_files.specs.FeedTrips.{row_of}
use Rattle.table_files.proofs.feed_trips.feed_trip_checks.Goals as goal

pub returns-clause-explains : goal.returns-clause-explains
returns-clause-explains c routes before header fields =
    let r = row_of header fields in
    also (also (also (also (also
    (only (by_limit (nat_le 1000000 (length before))))
    (by_check 0 refl refl))
    (by_others (is_none (position (bytes_eq r.route) routes)) 1 refl refl refl))
    (by_check 2 refl refl))
    (by_check 3 refl refl))
    (by_others (list_any (bytes_eq r.id) (map (λ b. b.id) before)) 4 refl refl refl)
