use Rattle.useful_minutes.proofs.SearchedMinutes.{Picked}
use Rattle.useful_minutes.proofs.plan.minutes_of.Given as goal

abbrev pub invariant-loop-m : goal.invariant-loop-m
invariant-loop-m l = Picked l.marks l.m l.gap l.next l.searched.items
