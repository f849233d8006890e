use Rattle.std.proofs.Common.{◌≡◌, ◌+◌, ℕ, false, drop}
use Rattle.std.specs.Prelude.{slice_index_or}
use Rattle.std.specs.List.{list_any}
use Rattle.scenarios.specs.ShiftedTimes.{TellsRecord, range_faults, shifts_trip}
use Rattle.scenarios.proofs.shifted_times.first_too_far.Given as goal

abbrev pub invariant-loop-i : goal.invariant-loop-i
invariant-loop-i l = record {
  later : (k : ℕ) → slice_index_or l.later.items k false ≡ list_any (shifts_trip k) (drop l.i l.edits);
  first : TellsRecord l.first (range_faults l.feed l.scenario.edits (l.i + 2) (drop l.i l.edits));
}
