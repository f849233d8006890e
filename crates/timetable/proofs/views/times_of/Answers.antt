use Rattle.std.proofs.Common.{◌≡◌, length, subst, arith, ℕ}
use Rattle.timetable.specs.LineViews.{rows_of_line, AreTimes}
use Rattle.timetable.proofs.LineLayout.{times_more, times_none}
use Rattle.timetable.proofs.views.times_of.Goals as goal

pub loop-trip-init : goal.loop-trip-init
loop-trip-init c positions all = rw c.new-times.ensures.items
    (times_none positions (rows_of_line c.args.trips.now c.args.line.now))

pub loop-trip-preserved : goal.loop-trip-preserved
loop-trip-preserved c positions all =
    let r = c.loop-trip.trip-index in
    let within = c.requires.in_range r 0 c.loop-trip-test.true in
    rw (c.in_ok-add_times.ensures, c.as_slice.ensures)
    (times_more c.args.trips.now c.args.line.now r positions c.index-trips-trip.result c.loop-trip.times.items
    c.loop-trip-test.true within all (c.loop-trip.invariant positions all))

pub returns : goal.returns
returns c positions all =
    let e : c.loop-trip.trip-index ≡ length c.args.line.now =
    omega (arith, c.loop-trip-test.false, c.loop-trip.auto.trip-index-end) in
    subst (λ (n : ℕ). AreTimes n positions (rows_of_line c.args.trips.now c.args.line.now) c.loop-trip.times.items) e
    (c.loop-trip.invariant positions all)
