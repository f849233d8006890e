use Rattle.std.proofs.Common.{refl}
use Rattle.studies.proofs.TripsOnce.{next_run}
use Rattle.studies.proofs.plain.runs_of.Goals as goal

pub loop-number-preserved : goal.loop-number-preserved
loop-number-preserved c =
    next_run c.args.feed.now.trips c.loop-number.number c.trip-trip.result.now c.loop-number.runs.items
    c.push.new.self.items _
    c.trip-trip.ensures c.loop-number.invariant
    (rw (c.new.ensures, c.in_ok-from_slice.ensures.items, c.as_slice.ensures) refl)
    c.in_ok-push.ensures.items
