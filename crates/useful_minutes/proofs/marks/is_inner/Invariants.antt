use Rattle.useful_minutes.proofs.InnerStops.{NoneSooner}
use Rattle.useful_minutes.proofs.marks.is_inner.Given as goal

abbrev pub invariant-loop-next : goal.invariant-loop-next
invariant-loop-next l = NoneSooner l.walks l.onward l.walk l.next-index
