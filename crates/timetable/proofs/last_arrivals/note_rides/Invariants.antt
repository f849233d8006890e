use Rattle.std.proofs.Common.{◌≡◌, ℕ, ◌<◌, ◌≤◌, slice_get, slice_index, Some, IsTrue}
use Rattle.timetable.specs.declared.limits.TheConstants.{END_OF_AXIS}
use Rattle.timetable.specs.declared.trips.Event.{Event}
use Rattle.timetable.specs.declared.trips.Trip.{Trip}
use Rattle.timetable.specs.LastArrivals.{Comes}
use Rattle.timetable.proofs.last_arrivals.note_rides.Given as goal

abbrev pub invariant-loop-trip : goal.invariant-loop-trip
invariant-loop-trip l =
    record {
      here : (x k : ℕ) (t : Trip) (e : Event) → x < l.trip-index → slice_get l.trips x ≡ Some t →
          slice_get t.events k ≡ Some e → IsTrue e.alight → e.arrive ≤ slice_index l.ridden e.stop.0;
      some : (p : ℕ) → Comes l.trips p (slice_index l.ridden p);
      early : (p : ℕ) → slice_index l.ridden p ≤ END_OF_AXIS;
    }
