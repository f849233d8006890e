use Rattle.useful_minutes.specs.Plan.{ArePadded}
use Rattle.useful_minutes.proofs.plan.pad.Given as goal

abbrev pub invariant-loop : goal.invariant-loop
invariant-loop l =
    ArePadded l.searched l.fn.minutes l.counter l.fn.positions.items l.fn.waits.items l.positions.items l.waits.items
