use Rattle.std.proofs.Common.{◌≡◌, ◌∙◌, ℕ, List, [], length, map, subst, sym}
use Rattle.std.proofs.lemmas.List.{length-map}
use Rattle.std.proofs.lemmas.Result.{err_from_is_err_and}
use Rattle.std.specs.declared.vec.Vec.{Vec}
use Rattle.std.specs.declared.alloc.Global.{Global}
use Rattle.table_files.specs.declared.frequencies.Departures.{Departures}
use Rattle.trip_events.specs.WholeTrips.{AreEvents}
use Rattle.gtfs_tables.specs.Catalog.{IsCatalog}
use Rattle.gtfs_tables.specs.Feed.{IsFeed}
use Rattle.gtfs_tables.specs.FeedParts.{data_of}
use Rattle.gtfs_tables.specs.declared.catalog.Catalog.{Catalog}
use Rattle.gtfs_tables.specs.declared.trip.FeedTrip.{FeedTrip}
use Rattle.gtfs_tables.specs.Files.{catalog_faults, faults_of_frequencies, faults_of_stop_times, faults_of_transfers}
use Rattle.gtfs_tables.specs.Files.{files_of}
use Rattle.gtfs_tables.proofs.FilesGiveAFeed.{departures_count, events_count, feed_is_sound, index_is}
use Rattle.gtfs_tables.proofs.FirstFileFault.{first_of_four}
use Rattle.gtfs_tables.proofs.read.read_feed.Goals as goal

pub returns-in_err-catalog-clause-fault : goal.returns-in_err-catalog-clause-fault
returns-in_err-catalog-clause-fault c =
    let f = files_of c.args.files.now in
    let (e, is, same) = err_from_is_err_and c.from_residual.result c.from_residual.ensures.1 in
    rw (is, same) (first_of_four _ (catalog_faults f) (faults_of_stop_times f) (faults_of_frequencies f)
    (faults_of_transfers f) c.in_err-catalog.ensures.fault)

pub trips_of-requires-clause-events : goal.trips_of-requires-clause-events
trips_of-requires-clause-events c =
    let f = files_of c.args.files.now in
    let (_, events, aside) = c.in_ok-events.ensures.good in
    let is = subst (λ (k : Catalog). IsCatalog k f) (sym c.as_ref-listed.ensures) c.in_ok-catalog.ensures.good.1 in
    events_count f c.as_ref-listed.result.now [] c.in_ok-events.field-0.aside c.in_ok-events.field-0.trips.items _ is
    events c.in_ok-departures.ensures.good.1 aside

pub trips_of-requires-clause-departures : goal.trips_of-requires-clause-departures
trips_of-requires-clause-departures c =
    let f = files_of c.args.files.now in
    let (_, events, aside) = c.in_ok-events.ensures.good in
    let is = subst (λ (k : Catalog). IsCatalog k f) (sym c.as_ref-listed.ensures) c.in_ok-catalog.ensures.good.1 in
    sym (length-map c.in_ok-departures.departures.items (λ (rows : Vec Departures Global). rows.items))
    ∙ departures_count f c.as_ref-listed.result.now [] c.in_ok-events.field-0.aside c.in_ok-events.field-0.trips.items _
    is events c.in_ok-departures.ensures.good.1 aside

pub new-requires-clause-feed : goal.new-requires-clause-feed
new-requires-clause-feed c =
    let f = files_of c.args.files.now in
    let listed = c.as_ref-listed.result.now in
    let times = c.in_ok-events.field-0 in
    let trips = c.in_ok-trips.trips.items in
    let transfers = c.in_ok-transfers.transfers in
    let (none, is_listed) = c.in_ok-catalog.ensures.good in
    let (_, events, aside) = c.in_ok-events.ensures.good in
    let (no_frequencies, departures) = c.in_ok-departures.ensures.good in
    let (_, links, unused) = c.in_ok-transfers.ensures.good in
    let is = subst (λ (k : Catalog). IsCatalog k f) (sym c.as_ref-listed.ensures) is_listed in
    let fit = subst (λ (l : List (List ℕ)). AreEvents (length l) times.trips.items) c.stops.ensures
    c.in_ok-events.ensures.fit in
    subst (λ (k : Catalog). IsFeed (data_of k trips times.aside transfers)) (c.as_ref-listed.ensures
    ∙ sym c.into_inner.ensures)
    (feed_is_sound f listed trips times.aside times.trips.items
    (map (λ (rows : Vec Departures Global). rows.items) c.in_ok-departures.departures.items)
    is events departures aside c.in_ok-trips.ensures transfers links unused none no_frequencies fit
    c.in_ok-events.ensures.few c.in_ok-transfers.ensures.in_range)

pub new-requires-clause-ids : goal.new-requires-clause-ids
new-requires-clause-ids c =
    let f = files_of c.args.files.now in
    let trips = c.in_ok-trips.trips.items in
    let (_, events, aside) = c.in_ok-events.ensures.good in
    let is = subst (λ (k : Catalog). IsCatalog k f) (sym c.as_ref-listed.ensures) c.in_ok-catalog.ensures.good.1 in
    subst (λ (k : Catalog). k.trips.ids ≡ map (λ (t : FeedTrip). t.id) trips) (c.as_ref-listed.ensures
    ∙ sym c.into_inner.ensures)
    (index_is f c.as_ref-listed.result.now trips c.in_ok-events.field-0.aside c.in_ok-events.field-0.trips.items
    (map (λ (rows : Vec Departures Global). rows.items) c.in_ok-departures.departures.items) is events
    c.in_ok-departures.ensures.good.1 aside c.in_ok-trips.ensures)
