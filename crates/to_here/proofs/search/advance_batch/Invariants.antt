use Rattle.std.proofs.Common.{◌≡◌, ◌<◌, ◌≤◌, ℕ, All, length, slice_get, Some}
use Rattle.to_here.specs.declared.row.OriginDurations.{OriginDurations}
use Rattle.to_here.specs.Row.{IsOriginOf}
use Rattle.to_here.specs.Search.{HasTaken}
use Rattle.to_here.proofs.search.advance_batch.Given as goal

-- the origins before o have taken the labels, and the others have not
abbrev pub invariant-loop-o : goal.invariant-loop-o
invariant-loop-o l =
    record {
      count : length l.row ≡ length l.fn.row;
      origins : All (IsOriginOf l.window) l.row;
      others : (i : ℕ) (x : OriginDurations) → l.o ≤ i → slice_get l.row i ≡ Some x → slice_get l.fn.row i ≡ Some x;
      taken : (i : ℕ) (x : OriginDurations) → i < l.o → slice_get l.row i ≡ Some x →
          (y : OriginDurations) × (slice_get l.fn.row i ≡ Some y) × HasTaken l.window l.deadlines l.search i y x;
    }
