use Rattle.std.proofs.Common.{◌≡◌, ◌<◌, ◌⊎◌, ℕ, get_or}
use Rattle.footpaths.proofs.dijkstra.forget.Given as goal

abbrev pub invariant-loop-stop : goal.invariant-loop-stop
invariant-loop-stop l =
    record {
      forgotten : (k : ℕ) → k < l.stop-index → get_or l.labels (get_or l.stops k 0) 0 ≡ 4294967295;
      others : (p : ℕ) → (get_or l.labels p 0 ≡ get_or l.fn.labels p 0) ⊎ (get_or l.labels p 0 ≡ 4294967295);
    }
