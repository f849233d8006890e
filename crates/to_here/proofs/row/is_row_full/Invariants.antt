use Rattle.std.proofs.Common.{◌≡◌, ◌<◌, ◌≤◌, ℕ, slice_get, slice_index, Some}
use Rattle.to_here.specs.declared.row.OriginDurations.{OriginDurations}
use Rattle.to_here.proofs.row.is_row_full.Given as goal

abbrev pub invariant-loop-o : goal.invariant-loop-o
invariant-loop-o l =
    (i : ℕ) (x : OriginDurations) → i < l.o → slice_get l.row i ≡ Some x → slice_index l.lasts i ≤ x.front
