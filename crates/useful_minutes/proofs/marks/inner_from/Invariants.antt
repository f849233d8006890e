use Rattle.useful_minutes.specs.Marks.{AreInner}
use Rattle.useful_minutes.proofs.marks.inner_from.Given as goal

abbrev pub invariant-loop-stop : goal.invariant-loop-stop
invariant-loop-stop v = AreInner v.network v.walks v.inner.items
