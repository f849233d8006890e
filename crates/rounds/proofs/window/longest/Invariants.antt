use Rattle.std.proofs.Common.{◌≡◌, ℕ, ◌<◌, ◌≤◌, List, length, slice_get, Some}
use Rattle.rounds.proofs.window.longest.Given as goal

abbrev pub invariant-loop-line : goal.invariant-loop-line
invariant-loop-line v = (k : ℕ) (row : List ℕ) → k < v.line → slice_get v.lines.lines k ≡ Some row → length row ≤ v.most
