use Rattle.rounds.proofs.PlannedWindows.{in_order, times_are}
use Rattle.rounds.proofs.skipped.times_of.Goals as goal

pub returns-clause-times : goal.returns-clause-times
returns-clause-times c =
    let v = c.loop-j.invariant in
    times_are c.args.window c.args.searched.now c.loop-j.times.items c.loop-j.j v.count c.loop-j-test.false
    c.loop-j.auto.j-end v.each

pub returns-clause-departures : goal.returns-clause-departures
returns-clause-departures c =
    let v = c.loop-j.invariant in
    in_order c.args.window c.args.searched.now c.loop-j.times.items c.requires.fits c.requires.searched
    (times_are c.args.window c.args.searched.now c.loop-j.times.items c.loop-j.j v.count c.loop-j-test.false
    c.loop-j.auto.j-end v.each)
