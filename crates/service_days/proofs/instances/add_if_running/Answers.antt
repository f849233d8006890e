use Rattle.std.proofs.Common.{◌≡◌, ◌≤◌, ◌<◌, ◌+◌, ◌++◌, ◌∙◌, List, false, arith, length, sym, subst}
use Rattle.std.specs.Prelude.{All, IfErr, OnOk}
use Rattle.gtfs_tables.specs.Feed.{IsDeparting}
use Rattle.gtfs_tables.specs.declared.trip.FeedTrip.{FeedTrip}
use Rattle.service_days.specs.Services.{runs_on}
use Rattle.service_days.specs.Instances.{IsListFault, runs_of_trip}
use Rattle.service_days.specs.declared.run.Run.{Run}
use Rattle.service_days.proofs.RunLists.{all_at, left_out, read_at, taken_in}
use Rattle.service_days.proofs.instances.add_if_running.Goals as goal

pub returns-then-not-index-clause-good : goal.returns-then-not-index-clause-good
returns-then-not-index-clause-good c =
    let t = c.args.trip.now in
    let known : t.service < length c.args.feed.now.services =
    all_at (λ (t : FeedTrip). t.service < length c.args.feed.now.services) c.args.feed.now.trips c.args.number t
    c.requires.trip c.known.ensures.of_services in
    let counted : t.service < length c.args.day.now.running.items = omega (arith, c.requires.day.count) in
    let on = read_at c.args.day.now.running.items t.service c.index.result.now false _ counted c.index.ensures
    (c.requires.day.each t.service known) in
    left_out (runs_on c.args.feed.now t.service c.args.day.now.number) (runs_of_trip c.args.base c.args.number t)
    c.args.runs.now (sym on ∙ c.if-not-index.true)

pub add_trip-requires-clause-events : goal.add_trip-requires-clause-events
add_trip-requires-clause-events c = all_at (λ (t : FeedTrip). All (λ e. (e.arrive ≤ 604799)
    × (e.depart ≤ 604799)) t.events) c.args.feed.now.trips c.args.number c.args.trip.now c.requires.trip
    c.known.ensures.in_time

pub add_trip-requires-clause-rows : goal.add_trip-requires-clause-rows
add_trip-requires-clause-rows c = all_at (λ (t : FeedTrip). All IsDeparting t.departures) c.args.feed.now.trips
    c.args.number c.args.trip.now c.requires.trip c.known.ensures.departing

pub returns-clause-good : goal.returns-clause-good
returns-clause-good c =
    let t = c.args.trip.now in
    let known : t.service < length c.args.feed.now.services =
    all_at (λ (t : FeedTrip). t.service < length c.args.feed.now.services) c.args.feed.now.trips c.args.number t
    c.requires.trip c.known.ensures.of_services in
    let counted : t.service < length c.args.day.now.running.items = omega (arith, c.requires.day.count) in
    let on = read_at c.args.day.now.running.items t.service c.index.result.now false _ counted c.index.ensures
    (c.requires.day.each t.service known) in
    let same = taken_in (runs_on c.args.feed.now t.service c.args.day.now.number)
    (runs_of_trip c.args.base c.args.number t) (sym on ∙ c.if-not-index.false) in
    subst (λ (l : List Run). OnOk c.add_trip.result (c.add_trip.new.runs ≡ c.args.runs.now ++ l)) same
    c.add_trip.ensures.good

pub returns-clause-fault : goal.returns-clause-fault
returns-clause-fault c =
    let t = c.args.trip.now in
    let known : t.service < length c.args.feed.now.services =
    all_at (λ (t : FeedTrip). t.service < length c.args.feed.now.services) c.args.feed.now.trips c.args.number t
    c.requires.trip c.known.ensures.of_services in
    let counted : t.service < length c.args.day.now.running.items = omega (arith, c.requires.day.count) in
    let on = read_at c.args.day.now.running.items t.service c.index.result.now false _ counted c.index.ensures
    (c.requires.day.each t.service known) in
    let same = taken_in (runs_on c.args.feed.now t.service c.args.day.now.number)
    (runs_of_trip c.args.base c.args.number t) (sym on ∙ c.if-not-index.false) in
    subst (λ (l : List Run). IfErr c.add_trip.result (λ e. IsListFault e (length c.args.runs.now + length l))) same
    c.add_trip.ensures.fault
