use Rattle.std.proofs.Common.{refl, arith}
use Rattle.rounds.proofs.LabelledDurations.{labels_of_query}
use Rattle.rounds.proofs.PlannedWindows.{planned}
use Rattle.rounds.proofs.search.Search.labels_or_durations.Goals as goal

pub returns-then-branch : goal.returns-then-branch
returns-then-branch c =
    let r = c.renumbered-renumbered.ensures in
    let found = c.in_ok-found.found in
    let is = c.new-plan.ensures in
    let low = r.low c.args.origin.0 c.requires.origin in
    rw is.window at (labels_of_query c.window_labels-labels.result c.window_labels-labels.ensures.labels c.args.network.now
    c.args.origin.0 c.known.ensures c.known-2.ensures (record {
      origin = omega (arith, low, r.stops);
      rides = c.requires.rides;
      times = rw c.as_slice-times.ensures.value c.in_ok-departures.ensures.departures;
      lines = c.lines.ensures;
    }) (planned {p = c.new-plan.result} c.args.window found.minutes.items found.positions.items found.waits.items
    c.in_ok-departures.departures.items is.window is.searched is.positions is.waits c.as_slice-times.ensures.value
    c.requires.fits c.in_ok-found.ensures.plan c.in_ok-found.ensures.skips
    (rw c.as_slice.ensures.value at c.in_ok-departures.ensures.times))
    c.renumbered-renumbered.result.1.now c.window_labels-labels.ensures.numbers
    (record { renumbered = r.same; stops = r.stops; size = r.size; low = r.low; start = refl }) c.requires.origin)

pub all_wide_durations-requires-clause-plan : goal.all_wide_durations-requires-clause-plan
all_wide_durations-requires-clause-plan c =
    let found = c.in_ok-found.found in
    let is = c.new-plan.ensures in
    planned {p = c.new-plan.result} c.args.window found.minutes.items found.positions.items found.waits.items
    c.in_ok-departures.departures.items is.window is.searched is.positions is.waits c.as_slice-times.ensures.value
    c.requires.fits c.in_ok-found.ensures.plan c.in_ok-found.ensures.skips
    (rw c.as_slice.ensures.value at c.in_ok-departures.ensures.times)
