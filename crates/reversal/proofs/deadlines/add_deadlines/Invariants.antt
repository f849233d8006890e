use Rattle.reversal.proofs.DeadlinesFound.{AreFound}
use Rattle.reversal.proofs.deadlines.add_deadlines.Given as goal

abbrev pub invariant-loop-i : goal.invariant-loop-i
invariant-loop-i l = AreFound l.feet.walks l.trip l.p.0 l.first l.i l.least l.fn.times.items l.times.items
