use Rattle.std.proofs.Common.{ℕ, get_or, slice_index}
use Rattle.std.proofs.lemmas.Option.{slice_get-get_or}
use Rattle.timetable.specs.declared.trips.StopNo.{StopNo}
use Rattle.timetable.specs.declared.least.TheConstants.{NEVER}
use Rattle.trip_lanes.proofs.WalkInOneLane.{later_one, later_each}
use Rattle.trip_lanes.proofs.plain.walk_from.Goals as goal

pub loop-to-preserved : goal.loop-to-preserved
loop-to-preserved c k l =
    let row = c.args.leaving.now in
    let x = c.loop-to.to-index in
    let none : StopNo × ℕ = (record { 0 = 0 }, 0) in
    let here = get_or row x none in
    later_one NEVER row (slice_index c.args.times k) x here.0.0 here.1 (slice_index c.later.result k)
    (slice_get-get_or row x none c.loop-to-test.true) (c.later.ensures k l) (c.loop-to.invariant k l)
    (c.lower_all.ensures k l)

pub returns : goal.returns
returns c l h = later_each NEVER c.args.leaving.now (slice_index c.args.times l) c.loop-to.to-index c.loop-to-test.false
    (c.loop-to.invariant l h)
