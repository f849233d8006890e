use Rattle.std.proofs.Common.{◌≡◌, ℕ, ◌+◌, ◌<◌, ◌≤◌, ◌⊎◌, slice_index}
use Rattle.timetable.specs.Footpaths.{IsFoot}
use Rattle.timetable.specs.declared.limits.TheConstants.{END_OF_AXIS, MOST_FOOT_SECONDS}
use Rattle.timetable.proofs.last_arrivals.note_walks.Given as goal

abbrev pub invariant-loop-stop : goal.invariant-loop-stop
invariant-loop-stop l =
    record {
      rides : (p : ℕ) → slice_index l.ridden p ≤ slice_index l.last p;
      walks : (q p seconds : ℕ) → q < l.stop → IsFoot l.feet.walks q p seconds →
          slice_index l.ridden q + seconds ≤ slice_index l.last p;
      some : (p : ℕ) → (slice_index l.last p ≡ slice_index l.ridden p)
          ⊎ ((q seconds : ℕ) × IsFoot l.feet.walks q p seconds
          × (slice_index l.ridden q + seconds ≡ slice_index l.last p));
      early : (p : ℕ) → slice_index l.last p ≤ END_OF_AXIS + MOST_FOOT_SECONDS;
    }
