use Rattle.std.proofs.Common.{◌≡◌, ◌<◌, ◌≤◌, ℕ, length, map, min, slice_get, slice_index, Some}
use Rattle.to_here.specs.declared.row.OriginDurations.{OriginDurations}
use Rattle.to_here.proofs.row.finish_row.Given as goal

-- the origins before o are lowered, and the others are not
abbrev pub invariant-loop-o : goal.invariant-loop-o
invariant-loop-o l =
    record {
      count : length l.row ≡ length l.fn.row;
      lowered : (i : ℕ) (y : OriginDurations) → i < l.o → slice_get l.row i ≡ Some y →
          (x : OriginDurations) × (slice_get l.fn.row i ≡ Some x)
          × (y.durations.items ≡ map (min (slice_index l.walks i)) x.durations.items);
      others : (i : ℕ) (x : OriginDurations) → l.o ≤ i → slice_get l.row i ≡ Some x → slice_get l.fn.row i ≡ Some x;
    }
