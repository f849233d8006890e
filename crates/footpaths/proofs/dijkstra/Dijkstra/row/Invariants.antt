use Rattle.std.proofs.Common.{◌≡◌, map, take, get_or, ℕ}
use Rattle.footpaths.proofs.dijkstra.Dijkstra.row.Given as goal

abbrev pub invariant-loop-stop : goal.invariant-loop-stop
invariant-loop-stop l = l.row.items ≡ map (λ (stop : ℕ). (record { 0 = stop }, get_or l.self.labels.items stop 0))
    (take l.stop-index l.self.touched.items)
