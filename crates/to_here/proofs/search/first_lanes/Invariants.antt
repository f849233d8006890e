use Rattle.std.proofs.Common.{◌≡◌, ◌<◌, ℕ, length, slice_index}
use Rattle.rounds.specs.LatestFirst.{IsLaneDuration}
use Rattle.to_here.proofs.search.first_lanes.Given as goal

abbrev pub invariant-loop-o : goal.invariant-loop-o
invariant-loop-o l =
    record {
      count : length l.labels.items ≡ l.o;
      each : (p : ℕ) → p < l.o → IsLaneDuration l.search p 0 (slice_index l.labels.items p);
    }
