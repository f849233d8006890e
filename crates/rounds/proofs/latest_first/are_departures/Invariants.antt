use Rattle.std.proofs.Common.{ℕ, ◌+◌, ◌<◌, slice_index}
use Rattle.rounds.proofs.latest_first.are_departures.Given as goal

abbrev pub invariant-loop-j : goal.invariant-loop-j
invariant-loop-j v = (i : ℕ) → i + 1 < v.j → slice_index v.times i < slice_index v.times (i + 1)
