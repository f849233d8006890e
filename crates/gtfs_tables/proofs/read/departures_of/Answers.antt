use Rattle.std.proofs.Common.{arith, ◌∙◌}
use Rattle.gtfs_tables.proofs.FeedTrips.{no_rows}
use Rattle.gtfs_tables.proofs.read.departures_of.Goals as goal

pub returns-in_ok-no_departures-in-None-clause-good : goal.returns-in_ok-no_departures-in-None-clause-good
returns-in_ok-no_departures-in-None-clause-good c =
    let items = c.in_ok-no_departures-in-None.field-0.items in
    no_rows c.args.files.now c.args.trips.now items c.in-None.is c.requires.trips
    (c.in_ok-no_departures-in-None.ensures.size ∙ c.len.ensures.len)
    (λ t d lt. c.in_ok-no_departures-in-None.ensures.empty t d (omega (arith, lt, c.len.ensures.len)))
