use Rattle.std.proofs.Common.{◌≡◌, ℕ, ◌+◌, ◌<◌, ◌≤◌, ◌⊎◌, slice_get, slice_index, Some}
use Rattle.timetable.specs.declared.limits.TheConstants.{END_OF_AXIS, MOST_FOOT_SECONDS}
use Rattle.timetable.proofs.last_arrivals.walk_on.Given as goal

abbrev pub invariant-loop-to : goal.invariant-loop-to
invariant-loop-to l =
    record {
      here : (k stop seconds : ℕ) → k < l.to-index → slice_get l.leaving k ≡ Some (record { 0 = stop }, seconds) →
          l.time + seconds ≤ slice_index l.last stop;
      told : (p : ℕ) → (slice_index l.last p ≡ slice_index l.initial.last p)
          ⊎ ((k seconds : ℕ) × (slice_get l.leaving k ≡ Some (record { 0 = p }, seconds))
          × (l.time + seconds ≡ slice_index l.last p));
      rises : (p : ℕ) → slice_index l.initial.last p ≤ slice_index l.last p;
      early : (p : ℕ) → slice_index l.last p ≤ END_OF_AXIS + MOST_FOOT_SECONDS;
    }
