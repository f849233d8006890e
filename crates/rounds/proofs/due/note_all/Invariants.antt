use Rattle.std.proofs.Common.{◌≡◌, ◌<◌, ◌≤◌, ℕ, slice_get, slice_index, Some}
use Rattle.rounds.proofs.due.note_all.Given as goal

abbrev pub invariant-loop-line : goal.invariant-loop-line
invariant-loop-line l =
    record {
      earlier : (line : ℕ) → slice_index l.due line ≤ slice_index l.initial.due line;
      new : (k line position : ℕ) → k < l.line-index → slice_get l.row k ≡ Some (line, position) →
          slice_index l.due line ≤ position;
    }
