use Rattle.std.proofs.Common.{◌≡◌, ◌<◌, ◌≤◌, ◌*◌, ◌++◌, ℕ, All, List, length, slice_get, Some}
use Rattle.to_here.specs.declared.row.OriginDurations.{OriginDurations}
use Rattle.to_here.specs.Front.{IsFront}
use Rattle.to_here.specs.Row.{AreFronts, IsOriginOf, labels_for}
use Rattle.to_here.proofs.row.advance_row.Given as goal

-- the origins before o have taken the labels, and the others have not
abbrev pub invariant-loop-o : goal.invariant-loop-o
invariant-loop-o l =
    record {
      from : l.from ≡ l.o * length l.deadlines;
      count : length l.row ≡ length l.fn.row;
      origins : All (IsOriginOf l.window) l.row;
      others : (i : ℕ) (x : OriginDurations) → l.o ≤ i → slice_get l.row i ≡ Some x → slice_get l.fn.row i ≡ Some x;
      fronts : (before : List ℕ) (labels_before : ℕ → List ℕ) → AreFronts l.window before labels_before l.fn.row →
          (i : ℕ) (x : OriginDurations) → i < l.o → slice_get l.row i ≡ Some x →
          IsFront l.window (before ++ l.deadlines) (labels_before i ++ labels_for l.labels (length l.deadlines) i)
          x.front x.durations.items;
    }
