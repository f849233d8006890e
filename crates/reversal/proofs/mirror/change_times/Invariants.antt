use Rattle.std.proofs.Common.{◌≡◌, take}
use Rattle.reversal.proofs.mirror.change_times.Given as goal

abbrev pub invariant-loop-a : goal.invariant-loop-a
invariant-loop-a l = l.changes.items ≡ take l.a l.feet.changes
