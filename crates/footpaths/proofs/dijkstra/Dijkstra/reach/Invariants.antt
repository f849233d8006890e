use Rattle.std.proofs.Common.{◌+◌, ◌*◌, length, sum}
use Rattle.std.specs.BinaryHeap.{heap_items}
use Rattle.footpaths.specs.Adjacency.{part}
use Rattle.footpaths.specs.Dijkstra.{marks, Spreads}
use Rattle.footpaths.proofs.dijkstra.Dijkstra.reach.Given as goal

abbrev pub invariant-loop-left : goal.invariant-loop-left
invariant-loop-left l = Spreads (part l.footpaths) (length l.fn.self.labels.items) l.fn.source.0 l.limit (marks l.self)

abbrev pub decreases-loop-left : goal.decreases-loop-left
decreases-loop-left l = 2 * sum l.self.labels.items + length (heap_items l.self.noted)
