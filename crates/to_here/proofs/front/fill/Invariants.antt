use Rattle.to_here.specs.Front.{IsFilled}
use Rattle.to_here.proofs.front.fill.Given as goal

abbrev pub invariant-loop-m : goal.invariant-loop-m
invariant-loop-m l = IsFilled l.window l.deadline l.from l.m l.fn.durations l.durations
