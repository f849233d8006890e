use Rattle.shares.proofs.RankAmongMinutes.{AreLongerBelow}
use Rattle.shares.proofs.ranks.push_cells.Given as goal

abbrev pub invariant-loop-k : goal.invariant-loop-k
invariant-loop-k l = AreLongerBelow l.lanes l.minutes l.shares l.fn.lists l.k l.lists
