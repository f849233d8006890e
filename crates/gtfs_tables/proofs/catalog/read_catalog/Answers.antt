use Rattle.std.proofs.Common.{◌∙◌, subst, sym}
use Rattle.std.proofs.lemmas.Result.{err_from_is_err_and}
use Rattle.table_files.specs.Places.{ArePlaces}
use Rattle.gtfs_tables.specs.Files.{faults_of_calendar, faults_of_calendar_dates, faults_of_routes, faults_of_stops}
use Rattle.gtfs_tables.specs.Files.{faults_of_trips, files_of}
use Rattle.gtfs_tables.specs.Catalog.{IsCatalog}
use Rattle.gtfs_tables.specs.declared.catalog.Catalog.{Catalog}
use Rattle.gtfs_tables.proofs.FilesGiveAFeed.{is_catalog}
use Rattle.gtfs_tables.proofs.FirstFileFault.{fifth_of_five, first_of_five, fourth_of_five, none_of_five}
use Rattle.gtfs_tables.proofs.FirstFileFault.{second_of_five, third_of_five}
use Rattle.gtfs_tables.proofs.catalog.read_catalog.Goals as goal

pub returns-in_err-places-clause-fault : goal.returns-in_err-places-clause-fault
returns-in_err-places-clause-fault c =
    let f = files_of c.args.files.now in
    let (e, is, same) = err_from_is_err_and c.from_residual.result c.from_residual.ensures.1 in
    rw (is, same) (first_of_five _ (faults_of_stops f) (faults_of_routes f) (faults_of_calendar f)
    (faults_of_calendar_dates f) (faults_of_trips f)
    c.in_err-places.ensures.fault)

pub returns-in_err-routes-clause-fault : goal.returns-in_err-routes-clause-fault
returns-in_err-routes-clause-fault c =
    let f = files_of c.args.files.now in
    let (e, is, same) = err_from_is_err_and c.from_residual-in_err-routes.result c.from_residual-in_err-routes.ensures.1
    in
    rw (is, same) (second_of_five _ (faults_of_stops f) (faults_of_routes f) (faults_of_calendar f)
    (faults_of_calendar_dates f) (faults_of_trips f)
    c.in_ok-places.ensures.good.0 c.in_err-routes.ensures.fault)

pub returns-in_err-weekly-clause-fault : goal.returns-in_err-weekly-clause-fault
returns-in_err-weekly-clause-fault c =
    let f = files_of c.args.files.now in
    let (e, is, same) = err_from_is_err_and c.from_residual-in_err-weekly.result c.from_residual-in_err-weekly.ensures.1
    in
    rw (is, same) (third_of_five _ (faults_of_stops f) (faults_of_routes f) (faults_of_calendar f)
    (faults_of_calendar_dates f) (faults_of_trips f)
    c.in_ok-places.ensures.good.0 c.in_ok-routes.ensures.good.0 c.in_err-weekly.ensures.fault)

pub returns-in_err-dated-clause-fault : goal.returns-in_err-dated-clause-fault
returns-in_err-dated-clause-fault c =
    let f = files_of c.args.files.now in
    let (e, is, same) = err_from_is_err_and c.from_residual-in_err-dated.result c.from_residual-in_err-dated.ensures.1
    in
    rw (is, same) (fourth_of_five _ (faults_of_stops f) (faults_of_routes f) (faults_of_calendar f)
    (faults_of_calendar_dates f) (faults_of_trips f)
    c.in_ok-places.ensures.good.0 c.in_ok-routes.ensures.good.0 c.in_ok-weekly.ensures.good.0
    c.in_err-dated.ensures.fault)

pub returns-in_err-trips-clause-fault : goal.returns-in_err-trips-clause-fault
returns-in_err-trips-clause-fault c =
    let f = files_of c.args.files.now in
    let (e, is, same) = err_from_is_err_and c.from_residual-in_err-trips.result c.from_residual-in_err-trips.ensures.1
    in
    rw (is, same) (fifth_of_five _ (faults_of_stops f) (faults_of_routes f) (faults_of_calendar f)
    (faults_of_calendar_dates f) (faults_of_trips f)
    c.in_ok-places.ensures.good.0 c.in_ok-routes.ensures.good.0 c.in_ok-weekly.ensures.good.0
    c.in_ok-dated.ensures.good.0 c.in_err-trips.ensures.fault)

pub returns-clause-good : goal.returns-clause-good
returns-clause-good c =
    let f = files_of c.args.files.now in
    let (no_stops, places) = c.in_ok-places.ensures.good in
    let (no_routes, routes) = c.in_ok-routes.ensures.good in
    let (no_calendar, weekly) = c.in_ok-weekly.ensures.good in
    let (no_dates, dated) = c.in_ok-dated.ensures.good in
    let (no_trips, trips) = c.in_ok-trips.ensures.good in (
      none_of_five (faults_of_stops f) (faults_of_routes f) (faults_of_calendar f) (faults_of_calendar_dates f)
          (faults_of_trips f) no_stops no_routes no_calendar no_dates no_trips,
      subst (λ (k : Catalog). IsCatalog k f) (sym c.in_ok-new.ensures.ok)
          (is_catalog f c.into_inner.result c.in_ok-routes.routes c.in_ok-weekly.field-0 c.in_ok-dated.field-0
          c.in_ok-trips.trips (
            c.into_inner.ensures ∙ places,
            subst ArePlaces (sym c.into_inner.ensures)
                c.in_ok-places.ensures.sound,
          )
          (routes, c.in_ok-routes.ensures.few) weekly (dated, c.in_ok-dated.ensures.few) (trips, no_trips)),
    )
