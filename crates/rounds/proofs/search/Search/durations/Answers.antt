use Rattle.rounds.proofs.PlannedWindows.{planned}
use Rattle.rounds.proofs.search.Search.durations.Goals as goal

pub window_durations-requires-clause-plan : goal.window_durations-requires-clause-plan
window_durations-requires-clause-plan c =
    let found = c.in_ok-found.found in
    let is = c.new-plan.ensures in
    planned {p = c.new-plan.result} c.args.window found.minutes.items found.positions.items found.waits.items
    c.in_ok-departures.departures.items is.window is.searched is.positions is.waits c.as_slice-times.ensures.value
    c.requires.fits c.in_ok-found.ensures.plan c.in_ok-found.ensures.skips
    (rw c.as_slice.ensures.value at c.in_ok-departures.ensures.times)
