use Rattle.useful_minutes.proofs.SearchedMinutes.{StoodIn}
use Rattle.useful_minutes.proofs.plan.stand_ins.Given as goal

abbrev pub invariant-loop-m : goal.invariant-loop-m
invariant-loop-m l = StoodIn l.searched l.m l.at l.positions.items l.waits.items
