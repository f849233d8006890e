use Rattle.std.proofs.Common.{length}
use Rattle.gtfs_tables.specs.NamedStops.{named_rows}
use Rattle.gtfs_tables.proofs.OriginFacts.{all_below, origins_below}
use Rattle.gtfs_tables.proofs.origins.read_stops.Goals as goal

pub returns-in_default-clause-stops : goal.returns-in_default-clause-stops
returns-in_default-clause-stops c = all_below (length c.args.feed.now.stops) c.in_ok-all_stops.field-0.items
    c.in_ok-all_stops.ensures

pub returns-in-Ok-clause-stops : goal.returns-in-Ok-clause-stops
returns-in-Ok-clause-stops c =
    let (clean, are) = c.in-Ok.ensures.good in
    rw are.stops_are (origins_below c.args.feed.now.stops (named_rows _) are.marked.known)
