-- What the rows of a file have where the file has no fault.
use Rattle.std.proofs.Common.{◌≡◌, ◌<◌, ◌≤◌, ℕ, Bool, true, false, List, [], ◌∷◌, ◌++◌, Option, Some, None, length, map}
use Rattle.std.proofs.Common.{position, refl, sym, subst, arith, append_assoc, if◌then◌else◌}
use Rattle.std.proofs.lemmas.Bool.Decides.{nat_tests}
use Rattle.std.proofs.lemmas.List.{append-nil, length-append, map-append}
use Rattle.std.proofs.lemmas.List.Elements.{All-nil, All-push}
use Rattle.std.specs.Prelude.{All, is_none, nat_le, option_and_then, unwrap_or}
use Rattle.std.specs.List.{IsDistinct, list_any}
use Rattle.std.specs.Str.{bytes_eq}
use Rattle.table_records.specs.Fields.{is_empty, number_of, time_of}
use Rattle.table_records.specs.Faults.{faults_after, faults_at, when}
use Rattle.table_records.specs.Table.{records_of}
use Rattle.table_records.specs.declared.fault.FileName.{FileName}
use Rattle.table_records.specs.declared.fault.FileName.TheVariants as file
use Rattle.table_records.specs.declared.fault.What.{What}
use Rattle.table_records.specs.declared.fault.What.TheVariants as what
use Rattle.table_records.specs.Reading.{lacks, missing_column, table_faults, table_rows}
use Rattle.table_files.specs.Routes as routes
use Rattle.table_files.specs.Calendar as calendar
use Rattle.table_files.specs.Days.{date_of}
use Rattle.table_files.specs.FeedTrips as trips
use Rattle.table_files.specs.Frequencies as frequencies
use Rattle.table_records.specs.Identifiers.{number_in}
use Rattle.table_files.proofs.ServiceFacts.{found}
use Rattle.table_files.proofs.NewIds.{distinct_push}
use Rattle.trip_events.proofs.TimeFacts.{time_small}
use Rattle.trip_events.proofs.EventFacts.{no_parts, none_mapped}
use Rattle.trip_events.proofs.RecordsAscend.{clean}
use Rattle.gtfs_tables.specs.Feed.{IsDeparting}

-- what each record keeps, all records have
module _ {R : Type 0} (name : FileName) (checks : List R → R → List What) (P : List R →
    Type 0) (step : (before : List R) (r : R) → P before → checks before r ≡ [] → P (before ++ r ∷ [])) where
  kept : (before rows : List R) → P before → faults_after name checks before rows ≡ [] → P (before ++ rows)
  kept before [] p none = subst P (sym (append-nil before)) p
  kept before (r ∷ rows) p none =
      let (here, rest) = no_parts (faults_at name checks before r) (faults_after name checks (before ++ r ∷ []) rows)
      none in
      subst P (append_assoc before (r ∷ []) rows)
      (kept (before ++ r ∷ []) rows (step before r p (none_mapped _ (checks before r) here)) rest)

  pub kept_rows : (required : List (List ℕ)) (row : List (List ℕ) → List (List ℕ) →
      R) (records : List (List (List ℕ))) → P []
      → table_faults name required row checks records ≡ [] → P (table_rows row records)
  kept_rows required row [] start none = start
  kept_rows required row (header ∷ rest) start none = by (lacks required header) none
    where
      by : (b : Bool) → (if b then missing_column name ∷ [] else faults_after name checks [] (map (row header) rest))
          ≡ [] → P (map (row header) rest)
      by true e = cc e
      by false e = kept [] (map (row header) rest) start e

nothing_distinct : IsDistinct bytes_eq []
unfolding IsDistinct
nothing_distinct = tt

-- no two routes share an identifier
pub distinct_routes : (bytes : List ℕ) → routes.route_faults bytes ≡ [] → IsDistinct bytes_eq (routes.route_ids bytes)
distinct_routes bytes = kept_rows file.Routes routes.checks (λ rows. IsDistinct bytes_eq (routes.routes_of rows)) step
    routes.required routes.row_of (records_of bytes) nothing_distinct
  where
    step : (before : List routes.RouteRow) (r : routes.RouteRow) → IsDistinct bytes_eq (routes.routes_of before) →
        routes.checks before r ≡ []
        → IsDistinct bytes_eq (routes.routes_of (before ++ r ∷ []))
    step before r apart none =
        let repeated : List What = when (list_any (bytes_eq r.id) (routes.routes_of before)) what.DuplicateId in
        let (_, new) = no_parts (when (is_empty r.id) what.EmptyId) repeated none in
        let fresh : list_any (bytes_eq r.id) (routes.routes_of before) ≡ false =
        clean (list_any (bytes_eq r.id) (routes.routes_of before)) what.DuplicateId new in
        rw (map-append (λ (x : routes.RouteRow). x.id) before (r ∷ []))
        (distinct_push (routes.routes_of before) r.id apart fresh)

-- no two rows of the calendar are about one service
pub distinct_calendar : (bytes : List ℕ) → calendar.calendar_faults bytes ≡ [] →
    IsDistinct bytes_eq (calendar.services_of (calendar.service_rows bytes))
distinct_calendar bytes = kept_rows file.Calendar calendar.checks
    (λ rows. IsDistinct bytes_eq (calendar.services_of rows)) step calendar.required calendar.row_of
    (records_of bytes) nothing_distinct
  where
    step : (before : List calendar.ServiceRow) (r : calendar.ServiceRow) →
        IsDistinct bytes_eq (calendar.services_of before) → calendar.checks before r ≡ []
        → IsDistinct bytes_eq (calendar.services_of (before ++ r ∷ []))
    step before r apart none =
        let unnamed : List What = when (is_empty r.service) what.EmptyId in
        let repeated : List What = when (list_any (bytes_eq r.service) (calendar.services_of before)) what.DuplicateId
        in
        let days : List What = when (is_none (calendar.days_of r.days)) what.BadNumber in
        let first : List What = when (is_none (date_of r.first)) what.BadDate in
        let (a, _) = no_parts (unnamed ++ repeated ++ days ++ first) (when (is_none (date_of r.last)) what.BadDate)
        none in
        let (b, _) = no_parts (unnamed ++ repeated ++ days) first a in
        let (d, _) = no_parts (unnamed ++ repeated) days b in
        let (_, new) = no_parts unnamed repeated d in
        let fresh : list_any (bytes_eq r.service) (calendar.services_of before) ≡ false =
        clean (list_any (bytes_eq r.service) (calendar.services_of before)) what.DuplicateId new in
        rw (map-append (λ (x : calendar.ServiceRow). x.service) before (r ∷ []))
        (distinct_push (calendar.services_of before) r.service apart fresh)

-- a number that was found is below the count
pub number_below : (ids : List (List ℕ)) (id : List ℕ) → is_none (position (bytes_eq id) ids) ≡ false →
    number_in ids id < length ids
number_below ids id there = by (position (bytes_eq id) ids) refl there
  where
    by : (o : Option ℕ) → o ≡ position (bytes_eq id) ids → is_none o ≡ false → unwrap_or o 0 < length ids
    by None e h = cc h
    by (Some n) e h = (found (bytes_eq id) ids n e).0

-- the trips are few and differ, and each has one of the routes
pub record AreListed (ids : List (List ℕ)) (rows : List trips.TripRow) : Type 0 where
  pub few : length rows ≤ 1000000
  pub distinct : IsDistinct bytes_eq (trips.trip_ids rows)
  pub of_routes : All (λ r. number_in ids r.route < length ids) rows

pub trips_listed : (ids : List (List ℕ)) (bytes : List ℕ) → trips.trip_faults ids bytes ≡ [] →
    AreListed ids (trips.trip_rows bytes)
trips_listed ids bytes =
    kept_rows file.Trips (trips.checks ids) (AreListed ids) step trips.required trips.row_of (records_of bytes)
    (record {
      few = omega arith;
      distinct = nothing_distinct;
      of_routes = All-nil (λ (r : trips.TripRow). number_in ids r.route < length ids);
    })
  where
    step : (before : List trips.TripRow) (r : trips.TripRow) → AreListed ids before → trips.checks ids before r ≡ [] →
        AreListed ids (before ++ r ∷ [])
    step before r are none =
        let full : List What = when (nat_le 1000000 (length before)) what.TooMany in
        let no_route : List What = when (is_empty r.route) what.EmptyId in
        let unknown : List What = when (is_none (position (bytes_eq r.route) ids)) what.UnknownRoute in
        let no_service : List What = when (is_empty r.service) what.EmptyId in
        let unnamed : List What = when (is_empty r.id) what.EmptyId in
        let repeated : List What = when (list_any (bytes_eq r.id) (trips.trip_ids before)) what.DuplicateId in
        let (a, new) = no_parts (full ++ no_route ++ unknown ++ no_service ++ unnamed) repeated none in
        let (b, _) = no_parts (full ++ no_route ++ unknown ++ no_service) unnamed a in
        let (d, _) = no_parts (full ++ no_route ++ unknown) no_service b in
        let (e, known) = no_parts (full ++ no_route) unknown d in
        let (many, _) = no_parts full no_route e in
        let room : nat_le 1000000 (length before) ≡ false = clean (nat_le 1000000 (length before)) what.TooMany many in
        let fresh : list_any (bytes_eq r.id) (trips.trip_ids before) ≡ false =
        clean (list_any (bytes_eq r.id) (trips.trip_ids before)) what.DuplicateId new in
        let there : is_none (position (bytes_eq r.route) ids) ≡ false =
        clean (is_none (position (bytes_eq r.route) ids)) what.UnknownRoute known in
        record {
          few = let some : length before < 1000000 = grind (arith, nat_tests) in
              omega (arith, some, length-append before (r ∷ []));
          distinct = rw (map-append (λ (x : trips.TripRow). x.id) before (r ∷ []))
              (distinct_push (trips.trip_ids before) r.id are.distinct fresh);
          of_routes = All-push (λ (x : trips.TripRow). number_in ids x.route
              < length ids) before r are.of_routes (number_below ids r.route there);
        }

-- the times of a row are within 168 hours, and its headway is at least a second
pub rows_departing : (ids : List (List ℕ)) (bytes : List ℕ) → frequencies.frequency_faults ids bytes ≡ []
    → All (λ r. IsDeparting (frequencies.departures_at r)) (frequencies.frequency_rows bytes)
rows_departing ids bytes =
    kept_rows file.Frequencies (frequencies.checks ids) (All (λ r. IsDeparting (frequencies.departures_at r))) step
    frequencies.required frequencies.row_of (records_of bytes)
    (All-nil (λ (r : frequencies.FrequencyRow). IsDeparting (frequencies.departures_at r)))
  where
    time : (text : List ℕ) → is_none (time_of text) ≡ false → unwrap_or (time_of text) 0 ≤ 604799
    time text there = by (time_of text) refl there
      where
        by : (o : Option ℕ) → time_of text ≡ o → is_none o ≡ false → unwrap_or o 0 ≤ 604799
        by None e h = cc h
        by (Some n) e h = time_small text n e

    headway : (text : List ℕ) → is_none (frequencies.headway_of text) ≡ false →
        1 ≤ unwrap_or (frequencies.headway_of text) 0
    headway text there = by (number_of text) there
      where
        big : (n : ℕ) (b : Bool) → nat_le 1 n ≡ b → is_none (if b then Some n else None) ≡ false →
            1 ≤ unwrap_or (if b then Some n else None) 0
        big n true e h = grind (arith, nat_tests)
        big n false e h = cc h

        by : (o : Option ℕ) → is_none (option_and_then (λ n. if nat_le 1 n then Some n else None) o) ≡ false →
            1 ≤ unwrap_or (option_and_then (λ n. if nat_le 1 n then Some n else None) o) 0
        by None h = cc h
        by (Some n) h = big n (nat_le 1 n) refl h

    step : (before : List frequencies.FrequencyRow) (r : frequencies.FrequencyRow) →
        All (λ x. IsDeparting (frequencies.departures_at x)) before → frequencies.checks ids before r ≡ []
        → All (λ x. IsDeparting (frequencies.departures_at x)) (before ++ r ∷ [])
    step before r are none =
        let unnamed : List What = when (is_empty r.trip) what.EmptyId in
        let unknown : List What = when (is_none (position (bytes_eq r.trip) ids)) what.UnknownTrip in
        let no_start : List What = when (is_none (time_of r.start)) what.BadTime in
        let no_end : List What = when (is_none (time_of r.end)) what.BadTime in
        let no_headway : List What = when (is_none (frequencies.headway_of r.headway)) what.BadNumber in
        let (a, some) = no_parts (unnamed ++ unknown ++ no_start ++ no_end) no_headway none in
        let (b, last) = no_parts (unnamed ++ unknown ++ no_start) no_end a in
        let (_, first) = no_parts (unnamed ++ unknown) no_start b in
        All-push (λ (x : frequencies.FrequencyRow). IsDeparting (frequencies.departures_at x)) before r are
        (record {
          start = time r.start (clean (is_none (time_of r.start)) what.BadTime first);
          end = time r.end (clean (is_none (time_of r.end)) what.BadTime last);
          headway = headway r.headway (clean (is_none (frequencies.headway_of r.headway)) what.BadNumber some);
        })
