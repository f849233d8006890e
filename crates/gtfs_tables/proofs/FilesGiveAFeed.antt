-- What a feed's files without faults state is a feed.
use Rattle.std.proofs.Common.{◌≡◌, ◌<◌, ◌≤◌, ◌+◌, ◌∙◌, ℕ, Bool, true, false, List, [], Option, Some, None, length, map}
use Rattle.std.proofs.Common.{arith, sym, ap, subst, if◌then◌else◌}
use Rattle.std.proofs.lemmas.List.{length-map}
use Rattle.std.proofs.lemmas.List.Elements.{All-map, All-nil}
use Rattle.std.specs.Prelude.{All, is_none}
use Rattle.std.specs.List.{IsDistinct}
use Rattle.std.specs.Str.{bytes_eq}
use Rattle.table_records.specs.declared.fault.FeedFault.{FeedFault}
use Rattle.table_records.specs.declared.fault.FileName.{FileName}
use Rattle.table_records.specs.declared.fault.FileName.TheVariants as file
use Rattle.table_records.specs.declared.limits.TheConstants.{MOST_BYTES}
use Rattle.table_files.specs.Calendar as calendar
use Rattle.table_files.specs.CalendarDates as dates
use Rattle.table_files.specs.FeedTrips as trips
use Rattle.table_files.specs.Frequencies.{departures_at, frequency_faults, frequency_rows}
use Rattle.table_files.specs.Children.{IsPlace}
use Rattle.table_files.specs.Places.{ArePlaces, PlaceData}
use Rattle.table_files.specs.Routes.{route_faults, route_ids}
use Rattle.table_records.specs.Identifiers.{number_in}
use Rattle.table_files.specs.Services.{named}
use Rattle.trip_events.specs.StopTimes.{time_rows}
use Rattle.table_files.specs.Transfers.{IsLink}
use Rattle.trip_events.specs.WholeTrips.{AreEvents}
use Rattle.table_files.specs.declared.calendar.Calendar.{Calendar}
use Rattle.table_files.specs.declared.calendar_dates.CalendarDates.{CalendarDates}
use Rattle.table_files.specs.declared.feed_trips.FeedTrips.{FeedTrips}
use Rattle.table_files.specs.declared.feed_trips.TripNumbers.{TripNumbers}
use Rattle.table_files.specs.declared.frequencies.Departures.{Departures}
use Rattle.table_files.specs.declared.services.TheConstants.{MOST_DATED_SERVICES, MOST_SERVICES}
use Rattle.table_files.specs.declared.transfers.Transfers.{Transfers}
use Rattle.timetable.specs.Trips.{EventsRise}
use Rattle.timetable.specs.declared.trips.Event.{Event}
use Rattle.gtfs_tables.specs.Catalog.{IsCatalog}
use Rattle.gtfs_tables.specs.Feed.{CalendarData, ExceptionData, IsDeparting, IsFeed}
use Rattle.gtfs_tables.specs.FeedParts.{data_of}
use Rattle.gtfs_tables.specs.Files as files
use Rattle.gtfs_tables.specs.Files.{Bytes, FeedFiles, optional, required, rows_in}
use Rattle.gtfs_tables.specs.declared.catalog.Catalog.{Catalog}
use Rattle.gtfs_tables.specs.declared.trip.FeedTrip.{FeedTrip}
use Rattle.gtfs_tables.proofs.FeedTrips.{All-trips_of, all_departing, events-trips_of, ids-trips_of}
use Rattle.gtfs_tables.proofs.FeedTrips.{length-departures_from}
use Rattle.gtfs_tables.proofs.ServiceNumbers.{all_below, all_named, all_own, all_stay, length-named, named_distinct}
use Rattle.gtfs_tables.proofs.ServiceNumbers.{values_stay}
use Rattle.gtfs_tables.proofs.RowsWithoutFaults.{AreListed, distinct_calendar, distinct_routes, rows_departing}
use Rattle.gtfs_tables.proofs.RowsWithoutFaults.{trips_listed}
use Rattle.gtfs_tables.proofs.EventCounts.{as_many}
use Rattle.gtfs_tables.proofs.FirstFileFault.{none_each}

-- what holds of the rows of a file without faults
required_rows : {R : Type 0} (name : FileName) (faults : Bytes → List FeedFault) (rows : Bytes → List R) (P : List R →
    Type 0) → ((bytes : Bytes) → faults bytes ≡ [] → P (rows bytes))
    → (f : Option Bytes) → required name faults f ≡ [] → P (rows_in rows f)
required_rows name faults rows P h None e = cc e
required_rows name faults rows P h (Some bytes) e = h bytes e

optional_rows : {R : Type 0} (faults : Bytes → List FeedFault) (rows : Bytes → List R) (P : List R → Type 0) →
    ((bytes : Bytes) → faults bytes ≡ [] → P (rows bytes)) → P []
    → (f : Option Bytes) → optional faults f ≡ [] → P (rows_in rows f)
optional_rows faults rows P h none None e = none
optional_rows faults rows P h none (Some bytes) e = h bytes e

nothing_distinct : IsDistinct bytes_eq []
unfolding IsDistinct
nothing_distinct = tt

module _ (f : FeedFiles) where
  -- the routes, the services of the calendar, the trips and the departures
  routes_apart : files.faults_of_routes f ≡ [] → IsDistinct bytes_eq (files.routes_in f)
  routes_apart = required_rows file.Routes route_faults route_ids (IsDistinct bytes_eq) distinct_routes f.routes

  calendar_apart : files.faults_of_calendar f ≡ [] → IsDistinct bytes_eq (files.calendar_services_in f)
  calendar_apart = by (is_none f.calendar_dates)
    where
      by : (b : Bool) → (if b then required file.Calendar calendar.calendar_faults f.calendar else optional
          calendar.calendar_faults f.calendar) ≡ []
          → IsDistinct bytes_eq (calendar.services_of (rows_in calendar.service_rows f.calendar))
      by true = required_rows file.Calendar calendar.calendar_faults calendar.service_rows
          (λ rows. IsDistinct bytes_eq (calendar.services_of rows)) distinct_calendar f.calendar
      by false = optional_rows calendar.calendar_faults calendar.service_rows
          (λ rows. IsDistinct bytes_eq (calendar.services_of rows)) distinct_calendar nothing_distinct f.calendar

  pub listed : files.faults_of_trips f ≡ [] → AreListed (files.routes_in f) (rows_in trips.trip_rows f.trips)
  listed = required_rows file.Trips (trips.trip_faults (files.routes_in f)) trips.trip_rows
      (AreListed (files.routes_in f)) (trips_listed (files.routes_in f)) f.trips

  departing : files.faults_of_frequencies f ≡ [] →
      All (λ r. IsDeparting (departures_at r)) (rows_in frequency_rows f.frequencies)
  departing =
      optional_rows (frequency_faults (files.trip_ids_in f)) frequency_rows (All (λ r. IsDeparting (departures_at r)))
      (rows_departing (files.trip_ids_in f))
      (All-nil (λ r. IsDeparting (departures_at r))) f.frequencies

  -- at most one service more for each trip
  pub few_services : (n : ℕ) → length (files.dated_services_in f) ≤ n → files.faults_of_trips f ≡ [] →
      length (files.services_in f) ≤ n + 1000000
  few_services n few none =
      let rows : List trips.TripRow = rows_in trips.trip_rows f.trips in
      omega (
        arith,
        few,
        (listed none).few,
        length-named (files.dated_services_in f)
            (map (λ (r : trips.TripRow). r.service) rows),
        length-map rows (λ (r : trips.TripRow). r.service),
      )

  -- each row of the three files names a known service
  services_calendar : All (λ r. number_in (files.services_in f) r.service
      < length (files.services_in f)) (rows_in calendar.service_rows f.calendar)
  services_calendar =
      let rows : List calendar.ServiceRow = rows_in calendar.service_rows f.calendar in
      let key : calendar.ServiceRow → List ℕ = λ r. r.service in
      let own = all_own key [] rows in
      let dated = all_stay key (files.calendar_services_in f)
      (map (λ (r : dates.DateRow). r.service) (rows_in dates.date_rows f.calendar_dates)) rows own in
      all_below key (files.services_in f) rows
      (all_stay key (files.dated_services_in f)
      (map (λ (r : trips.TripRow). r.service) (rows_in trips.trip_rows f.trips)) rows dated)

  services_dates : All (λ r. number_in (files.services_in f) r.service
      < length (files.services_in f)) (rows_in dates.date_rows f.calendar_dates)
  services_dates =
      let rows : List dates.DateRow = rows_in dates.date_rows f.calendar_dates in
      let key : dates.DateRow → List ℕ = λ r. r.service in
      let own = all_named key (files.calendar_services_in f) rows in
      all_below key (files.services_in f) rows
      (all_stay key (files.dated_services_in f)
      (map (λ (r : trips.TripRow). r.service) (rows_in trips.trip_rows f.trips)) rows own)

  services_trips : All (λ r. number_in (files.services_in f) r.service
      < length (files.services_in f)) (rows_in trips.trip_rows f.trips)
  services_trips =
      let rows : List trips.TripRow = rows_in trips.trip_rows f.trips in
      let key : trips.TripRow → List ℕ = λ r. r.service in
      all_below key (files.services_in f) rows (all_named key (files.dated_services_in f) rows)

  -- all four lists are as long as the list of trips
  pub as_many_numbers : length (files.numbers_in f) ≡ length (files.trip_ids_in f)
  as_many_numbers =
      let rows : List trips.TripRow = rows_in trips.trip_rows f.trips in
      length-map rows (trips.numbers_of (files.routes_in f) (files.services_in f))
      ∙ sym (length-map rows (λ (r : trips.TripRow). r.id))

  pub as_many_events : length (files.events_in f) ≡ length (files.trip_ids_in f)
  as_many_events = as_many (files.trip_ids_in f) (files.stops_in f) (rows_in time_rows f.stop_times)

  pub as_many_departures : length (files.departures_in f) ≡ length (files.trip_ids_in f)
  as_many_departures = length-departures_from (files.trip_ids_in f) (rows_in frequency_rows f.frequencies) 0
      (files.trip_ids_in f)

  pub ids_are : map (λ (t : FeedTrip). t.id)
      (files.trips_of (files.trip_ids_in f) (files.numbers_in f) (files.events_in f) (files.departures_in f))
      ≡ files.trip_ids_in f
  ids_are = ids-trips_of (files.trip_ids_in f) (files.numbers_in f) (files.events_in f) (files.departures_in f)
      as_many_numbers as_many_events as_many_departures

  -- the feed that the files state, where they have no fault
  pub is_feed : files.faults_of_routes f ≡ [] → files.faults_of_calendar f ≡ [] → files.faults_of_trips f ≡ [] →
      files.faults_of_frequencies f ≡ []
      → ArePlaces (files.places_in f) → length (files.routes_in f) ≤ MOST_BYTES →
      length (files.services_in f) ≤ MOST_SERVICES
      → AreEvents (length (files.stops_in f)) (files.events_in f) → files.aside_in f ≤ length (files.trip_ids_in f)
      → All (IsLink (length (files.stops_in f)) (length (files.places_in f).children)) (files.links_in f) →
      IsFeed (files.feed_of f)
  is_feed no_routes no_calendar no_trips no_frequencies places routes services are aside links =
      let ids : List (List ℕ) = files.trip_ids_in f in
      let numbers : List TripNumbers = files.numbers_in f in
      let events : List (List Event) = files.events_in f in
      let departures : List (List Departures) = files.departures_in f in
      let all : List FeedTrip = files.trips_of ids numbers events departures in
      let are_listed : AreListed (files.routes_in f) (rows_in trips.trip_rows f.trips) = listed no_trips in
      let rows : List trips.TripRow = rows_in trips.trip_rows f.trips in
      let numbers_of : trips.TripRow → TripNumbers = trips.numbers_of (files.routes_in f) (files.services_in f) in
      let count : length all ≡ length ids = sym (length-map all (λ (t : FeedTrip). t.id)) ∙ ap length ids_are in
      let many : length ids ≡ length rows = length-map rows (λ (r : trips.TripRow). r.id) in
      let any_numbers : All (λ (n : TripNumbers). Unit {0}) numbers = λ k x lt. tt in
      let any_events : All (λ (e : List Event). Unit {0}) events = λ k x lt. tt in
      let any_departures : All (λ (d : List Departures). Unit {0}) departures = λ k x lt. tt in
      record {
        few_names = places.few;
        few_stops = omega (arith, places.few, places.stops_within);
        few_routes = routes;
        few_services = services;
        distinct_stops = places.distinct;
        distinct_routes = routes_apart no_routes;
        distinct_services = named_distinct (files.dated_services_in f) (map (λ (r : trips.TripRow). r.service) rows)
            (named_distinct (files.calendar_services_in f)
            (map (λ (r : dates.DateRow). r.service) (rows_in dates.date_rows f.calendar_dates))
            (calendar_apart no_calendar));
        distinct_trips = subst (IsDistinct bytes_eq) (sym ids_are) are_listed.distinct;
        few_trips = omega (arith, count, many, are_listed.few);
        few_events = omega (arith, events-trips_of ids numbers events departures, are.few);
        at_stops = All-trips_of (λ n. Unit {0}) (All (λ (e : Event). e.stop.0 < length (files.stops_in f)))
            (λ d. Unit {0}) (λ (t : FeedTrip). All (λ (e : Event). e.stop.0 < length (files.stops_in f)) t.events)
            (λ id n e d a b x. b) ids numbers events departures any_numbers are.at_stops any_departures;
        in_time = All-trips_of (λ n. Unit {0}) (All (λ (e : Event). (e.arrive ≤ 604799) × (e.depart ≤ 604799)))
            (λ d. Unit {0}) (λ (t : FeedTrip). All (λ (e : Event). (e.arrive ≤ 604799)
            × (e.depart ≤ 604799)) t.events)
            (λ id n e d a b x. b) ids numbers events departures any_numbers are.in_time any_departures;
        rise = All-trips_of (λ n. Unit {0}) EventsRise (λ d. Unit {0}) (λ (t : FeedTrip). EventsRise t.events)
            (λ id n e d a b x. b) ids numbers events departures any_numbers are.rise any_departures;
        of_routes = All-trips_of (λ n. n.route < length (files.routes_in f)) (λ e. Unit {0}) (λ d. Unit {0})
            (λ (t : FeedTrip). t.route < length (files.routes_in f)) (λ id n e d a b x. a)
            ids numbers events departures (All-map (λ (n : TripNumbers). n.route
            < length (files.routes_in f)) numbers_of rows are_listed.of_routes) any_events any_departures;
        of_services = All-trips_of (λ n. n.service
            < length (files.services_in f)) (λ e. Unit {0}) (λ d. Unit {0}) (λ (t : FeedTrip). t.service
            < length (files.services_in f)) (λ id n e d a b x. a)
            ids numbers events departures (All-map (λ (n : TripNumbers). n.service
            < length (files.services_in f)) numbers_of rows services_trips) any_events any_departures;
        departing = All-trips_of (λ n. Unit {0}) (λ e. Unit {0}) (All IsDeparting)
            (λ (t : FeedTrip). All IsDeparting t.departures) (λ id n e d a b x. x)
            ids numbers events departures any_numbers any_events
            (all_departing ids (rows_in frequency_rows f.frequencies) 0 ids (departing no_frequencies));
        calendar_services = All-map (λ (r : CalendarData). r.service
            < length (files.services_in f)) (calendar.data_of (files.services_in f))
            (rows_in calendar.service_rows f.calendar) services_calendar;
        exception_services = All-map (λ (r : ExceptionData). r.service
            < length (files.services_in f)) (dates.data_of (files.services_in f))
            (rows_in dates.date_rows f.calendar_dates) services_dates;
        few_aside = omega (arith, count, aside);
        as_many = places.as_many;
        places = subst (λ (n : ℕ). All (IsPlace (length (files.stops_in f)) n) (files.places_in f).places)
            (sym places.lists) places.in_range;
        children = places.children;
        links = links;
      }

  -- the catalog that was read file by file: the rows of both calendars keep the numbers of their services
  pub is_catalog : (p : PlaceData) (routes : List (List ℕ)) (c : Calendar) (d : CalendarDates) (t : FeedTrips)
      → (p ≡ files.places_in f) × ArePlaces p → (routes ≡ files.routes_in f) × (length routes ≤ MOST_BYTES) →
      calendar.IsCalendar c (rows_in calendar.service_rows f.calendar)
      → dates.AreExceptions c.services d (rows_in dates.date_rows f.calendar_dates)
      × (length d.services ≤ MOST_DATED_SERVICES)
      → trips.AreTrips routes d.services t (rows_in trips.trip_rows f.trips) × (files.faults_of_trips f ≡ [])
      → IsCatalog (record { places = p; routes = routes; calendar = c.rows; exceptions = d.rows; trips = t }) f
  is_catalog p routes c d t (places_are, sound) (routes_are, few_routes) weekly (are_exceptions, few_dated)
      (are_trips, no_trips) =
      let named_in_dates : List (List ℕ) = map (λ (r : dates.DateRow). r.service)
      (rows_in dates.date_rows f.calendar_dates) in
      let named_in_trips : List (List ℕ) = map (λ (r : trips.TripRow). r.service) (rows_in trips.trip_rows f.trips) in
      let service_rows : List calendar.ServiceRow = rows_in calendar.service_rows f.calendar in
      let date_rows : List dates.DateRow = rows_in dates.date_rows f.calendar_dates in
      let trip_rows : List trips.TripRow = rows_in trips.trip_rows f.trips in
      let dated : d.services ≡ files.dated_services_in f =
      are_exceptions.services ∙ ap (λ (l : List (List ℕ)). named l named_in_dates) weekly.services in
      let all : t.services ≡ files.services_in f =
      are_trips.services ∙ ap (λ (l : List (List ℕ)). named l named_in_trips) dated in
      let of_calendar : calendar.ServiceRow → List ℕ = λ r. r.service in
      let make_row : ℕ → calendar.ServiceRow → CalendarData = λ n r. record (calendar.data_of [] r) { service = n } in
      let own = all_own of_calendar [] service_rows in
      let rows_stay = values_stay of_calendar make_row (files.calendar_services_in f) named_in_dates service_rows own in
      let rows_stay_too = values_stay of_calendar make_row (files.dated_services_in f) named_in_trips service_rows
      (all_stay of_calendar (files.calendar_services_in f) named_in_dates service_rows own) in
      let of_date : dates.DateRow → List ℕ = λ r. r.service in
      let make_date : ℕ → dates.DateRow → ExceptionData = λ n r. record (dates.data_of [] r) { service = n } in
      let dates_stay = values_stay of_date make_date (files.dated_services_in f) named_in_trips date_rows
      (all_named of_date (files.calendar_services_in f) date_rows) in
      record {
        places = places_are;
        routes = routes_are;
        calendar = weekly.values ∙ ap (λ (l : List (List ℕ)). map (calendar.data_of l) service_rows) weekly.services
            ∙ sym (rows_stay_too ∙ rows_stay);
        exceptions = are_exceptions.values ∙ ap (λ (l : List (List ℕ)). map (dates.data_of l) date_rows) dated
            ∙ sym dates_stay;
        services = all;
        trip_ids = are_trips.ids;
        numbers = are_trips.numbers ∙ (λ k. map (trips.numbers_of (routes_are k) (all k)) trip_rows);
        sound_places = sound;
        few_routes = few_routes;
        few_services = let dated_few : length (files.dated_services_in f) ≤ MOST_DATED_SERVICES =
            subst (λ (l : List (List ℕ)). length l ≤ MOST_DATED_SERVICES) dated few_dated in
            subst (λ (l : List (List ℕ)). length l ≤ MOST_SERVICES) (sym all)
            (few_services MOST_DATED_SERVICES dated_few no_trips);
        few_trips = let ids = ap length are_trips.ids in
            omega (arith, ids, length-map trip_rows (λ (r : trips.TripRow). r.id), (listed no_trips).few);
      }

  module _ (c : Catalog) (all : List FeedTrip) (aside : ℕ) (events : List (List Event))
      (departures : List (List Departures)) (is : IsCatalog c f) (are_events : events ≡ files.events_in f)
      (are_departures : departures ≡ files.departures_in f) (are_aside : aside ≡ files.aside_in f) where
    pub events_count : length events ≡ length c.trips.ids
    events_count = ap length are_events ∙ as_many_events ∙ sym (ap length is.trip_ids)

    pub departures_count : length departures ≡ length c.trips.ids
    departures_count = ap length are_departures ∙ as_many_departures ∙ sym (ap length is.trip_ids)

    module _ (are_trips : all ≡ files.trips_of c.trips.ids c.trips.numbers.items events departures) where
      trips_are : all ≡ files.trips_of (files.trip_ids_in f) (files.numbers_in f) (files.events_in f)
          (files.departures_in f)
      trips_are = are_trips ∙ (λ k. files.trips_of (is.trip_ids k) (is.numbers k) (are_events k) (are_departures k))

      -- the index of the trips has their identifiers
      pub index_is : c.trips.ids ≡ map (λ (t : FeedTrip). t.id) all
      index_is = is.trip_ids ∙ sym (ap (map (λ (t : FeedTrip). t.id)) trips_are ∙ ids_are)

      module _ (transfers : Transfers) (are_links : transfers.links.items
          ≡ files.links_in f) (are_unused : transfers.unused ≡ files.unused_in f) where
        -- what was read is what the files state
        pub data_is : data_of c all aside transfers ≡ files.feed_of f
        data_is = λ k. record {
          names = (is.places k).names;
          places = (is.places k).places;
          stops = (is.places k).stops;
          children = (is.places k).children;
          routes = is.routes k;
          services = is.services k;
          calendar = is.calendar k;
          exceptions = is.exceptions k;
          trips = trips_are k;
          aside = are_aside k;
          links = are_links k;
          unused = are_unused k;
        }

        sound_places : ArePlaces (files.places_in f)
        sound_places = subst ArePlaces is.places is.sound_places

        -- both ends of each walk are places of the feed
        sound_links : All (IsLink (length c.places.stops) (length c.places.stations)) transfers.links.items
            → All (IsLink (length (files.stops_in f)) (length (files.places_in f).children)) (files.links_in f)
        sound_links in_range =
            let stops : ℕ = length (files.stops_in f) in
            let here = subst (λ (p : PlaceData). All (IsLink (length p.stops) (length p.stations))
            transfers.links.items) is.places in_range in
            let stated = subst (All (IsLink stops (length (files.places_in f).stations))) are_links here in
            subst (λ (n : ℕ). All (IsLink stops n) (files.links_in f)) (sym sound_places.lists) stated

        pub feed_is_sound : files.catalog_faults f ≡ [] → files.faults_of_frequencies f ≡ [] →
            AreEvents (length c.places.stops) events → aside ≤ length c.trips.ids
            → All (IsLink (length c.places.stops) (length c.places.stations)) transfers.links.items →
            IsFeed (data_of c all aside transfers)
        feed_is_sound none no_frequencies are few_aside in_range =
            let (no_routes, no_calendar, no_trips) =
            none_each (files.faults_of_stops f) (files.faults_of_routes f) (files.faults_of_calendar f)
            (files.faults_of_calendar_dates f) (files.faults_of_trips f) none in
            subst IsFeed (sym data_is) (is_feed no_routes no_calendar no_trips no_frequencies sound_places
            (subst (λ (l : List (List ℕ)). length l ≤ MOST_BYTES) is.routes is.few_routes)
            (subst (λ (l : List (List ℕ)). length l ≤ MOST_SERVICES) is.services is.few_services)
            (subst (AreEvents (length (files.stops_in f))) are_events
            (subst (λ (p : PlaceData). AreEvents (length p.stops) events) is.places are))
            (let ids = ap length is.trip_ids in omega (arith, few_aside, are_aside, ids))
            (sound_links in_range))
