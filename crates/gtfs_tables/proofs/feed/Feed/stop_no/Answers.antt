use Rattle.std.proofs.Common.{◌≡◌, Some, position}
use Rattle.std.specs.Str.{bytes_eq}
use Rattle.gtfs_tables.proofs.NumbersLeadBack.{at_position}
use Rattle.gtfs_tables.proofs.feed.Feed.stop_no.Goals as goal

pub returns-in-Some-clause-leads_back : goal.returns-in-Some-clause-leads_back
returns-in-Some-clause-leads_back c =
    let here : Some c.in-Some.number ≡ position (bytes_eq c.args.id.now) c.self.inside.catalog.places.stops =
    cc c.in-Some.ensures in
    rw (← c.self.view_is) (at_position c.self.inside.catalog.places.stops c.in-Some.number c.args.id.now here)
