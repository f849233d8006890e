use Rattle.std.proofs.Common.{ℕ, get_or}
use Rattle.std.proofs.lemmas.Option.{slice_get-get_or}
use Rattle.timetable.specs.declared.trips.StopNo.{StopNo}
use Rattle.trip_lanes.proofs.WalksByStops.{leave_one, leave_each}
use Rattle.rounds.proofs.plain.walk_from.Goals as goal

pub loop-to-preserved : goal.loop-to-preserved
loop-to-preserved c =
    let row = c.args.leaving.now in
    let x = c.loop-to.to-index in
    let none : StopNo × ℕ = (record { 0 = 0 }, 0) in
    let here = get_or row x none in
    leave_one row c.args.time x here.0.0 here.1 (slice_get-get_or row x none c.loop-to-test.true) c.loop-to.invariant
    c.lower.ensures

pub returns : goal.returns
returns c = leave_each c.args.leaving.now c.args.time c.loop-to.to-index c.loop-to-test.false c.loop-to.invariant
