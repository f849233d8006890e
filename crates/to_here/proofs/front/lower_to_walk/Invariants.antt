use Rattle.std.proofs.Common.{◌≡◌, ◌++◌, map, min, take, drop}
use Rattle.to_here.proofs.front.lower_to_walk.Given as goal

abbrev pub invariant-loop-m : goal.invariant-loop-m
invariant-loop-m l = l.durations ≡ map (min l.walk) (take l.m l.fn.durations) ++ drop l.m l.fn.durations
