use Rattle.std.proofs.Common.{◌≡◌, ℕ, ◌<◌, ◌≤◌, ◌⊎◌, slice_get, slice_index, Some, IsTrue}
use Rattle.timetable.specs.declared.limits.TheConstants.{END_OF_AXIS}
use Rattle.timetable.specs.declared.trips.Event.{Event}
use Rattle.timetable.proofs.last_arrivals.note_arrivals.Given as goal

abbrev pub invariant-loop-event : goal.invariant-loop-event
invariant-loop-event l =
    record {
      here : (k : ℕ) (e : Event) → k < l.event-index → slice_get l.events k ≡ Some e → IsTrue e.alight →
          e.arrive ≤ slice_index l.ridden e.stop.0;
      told : (p : ℕ) → (slice_index l.ridden p ≡ slice_index l.initial.ridden p)
          ⊎ ((k : ℕ) × (e : Event) × (slice_get l.events k ≡ Some e) × IsTrue e.alight × (e.stop.0 ≡ p)
          × (e.arrive ≡ slice_index l.ridden p));
      rises : (p : ℕ) → slice_index l.initial.ridden p ≤ slice_index l.ridden p;
      early : (p : ℕ) → slice_index l.ridden p ≤ END_OF_AXIS;
    }
