use Rattle.std.proofs.Common.{refl}
use Rattle.gtfs_tables.specs.FeedParts.{data_of}
use Rattle.gtfs_tables.proofs.TripsForgotten.{is_feed}
use Rattle.gtfs_tables.proofs.feed.Feed.forget_trips.Goals as goal

pub invariant_of-self : goal.invariant_of-self
invariant_of-self c =
    let whole = data_of c.self.inside.catalog c.self.inside.trips.items c.self.inside.aside c.self.inside.transfers in
    rw (c.new-2.ensures.items, c.new.ensures) (is_feed whole c.self.invariant.0, refl)
