use Rattle.std.proofs.Common.{◌≡◌, ◌-◌, ◌<◌, ℕ, length, slice_index}
use Rattle.to_here.proofs.search.reversed.Given as goal

abbrev pub invariant-loop-j : goal.invariant-loop-j
invariant-loop-j l =
    record {
      count : length l.labels ≡ 16;
      each : (k : ℕ) → k < l.j → slice_index l.labels k ≡ slice_index l.lanes (l.width - 1 - k);
    }
