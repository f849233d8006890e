use Rattle.std.proofs.Common.{◌≡◌, Some}
use Rattle.std.specs.Prelude.{slice_get}
use Rattle.gtfs_tables.proofs.NumbersLeadBack.{position_of}
use Rattle.gtfs_tables.proofs.feed.Feed.stop_id.Goals as goal

pub returns-clause-leads_back : goal.returns-clause-leads_back
returns-clause-leads_back c =
    let stops = c.self.inside.catalog.places.stops in
    let here : slice_get stops c.args.stop.0 ≡ Some c.in-Some.id.now = cc c.in-Some.ensures in
    rw (← c.self.view_is)
    (position_of stops c.args.stop.0 c.in-Some.id.now c.self.invariant.0.distinct_stops here)
