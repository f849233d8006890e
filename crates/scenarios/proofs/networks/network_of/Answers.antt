use Rattle.std.proofs.Common.{inl}
use Rattle.scenarios.proofs.MovedTrips.{memory_is_left}
use Rattle.scenarios.proofs.networks.network_of.Goals as goal

pub returns-clause-fault : goal.returns-clause-fault
returns-clause-fault c =
    inl (memory_is_left c.args.feed.now c.known.ensures c.args.scenario.now c.args.runs.now c.args.feet.now
    c.stop_count.result c.in_ok-trips.trips.items
    c.stop_count.ensures c.requires.feet c.in_ok-trips.ensures.good.0 c.in_ok-trips.ensures.good.1 c.in-Err.fault
    c.in-Err.ensures.fault)
