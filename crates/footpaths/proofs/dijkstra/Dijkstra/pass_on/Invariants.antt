use Rattle.std.proofs.Common.{take}
use Rattle.footpaths.specs.Dijkstra.{marks, PassedOn}
use Rattle.footpaths.proofs.dijkstra.Dijkstra.pass_on.Given as goal

abbrev pub invariant-loop-stop : goal.invariant-loop-stop
invariant-loop-stop l = PassedOn l.limit l.label (take l.stop-index l.leaving) (marks l.fn.self) (marks l.self)
