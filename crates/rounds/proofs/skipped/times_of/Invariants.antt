use Rattle.std.proofs.Common.{◌≡◌, ℕ, ◌<◌, length, slice_index}
use Rattle.rounds.specs.Window.{departure}
use Rattle.rounds.proofs.skipped.times_of.Given as goal

abbrev pub invariant-loop-j : goal.invariant-loop-j
invariant-loop-j v =
    record {
      count : length v.times.items ≡ v.j;
      each : (i : ℕ) → i < v.j → slice_index v.times.items i ≡ departure v.window (slice_index v.searched i);
    }
