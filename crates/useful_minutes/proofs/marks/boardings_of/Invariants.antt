use Rattle.useful_minutes.specs.Marks.{AreBoardings}
use Rattle.useful_minutes.proofs.marks.boardings_of.Given as goal

abbrev pub invariant-loop-position : goal.invariant-loop-position
invariant-loop-position v =
    AreBoardings v.calls v.nearby.walks.now v.nearby.inner.now v.position v.boardings.items
