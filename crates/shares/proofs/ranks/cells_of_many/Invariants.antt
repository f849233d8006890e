use Rattle.std.proofs.Common.{◌≡◌, length}
use Rattle.shares.proofs.RankAmongMinutes.{AreBegun}
use Rattle.shares.proofs.ranks.cells_of_many.Given as goal

abbrev pub invariant-loop-n : goal.invariant-loop-n
invariant-loop-n l = record {
  rows : length l.planes.items ≡ 33;
  begun : AreBegun l.durations l.destinations l.shares l.n l.lists.items;
}
