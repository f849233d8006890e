use Rattle.useful_minutes.proofs.InnerStops.{AreNear}
use Rattle.useful_minutes.proofs.marks.leads_away.Given as goal

abbrev pub invariant-loop-next : goal.invariant-loop-next
invariant-loop-next l = AreNear l.calls l.nearby.inner.now l.position l.seconds l.next
