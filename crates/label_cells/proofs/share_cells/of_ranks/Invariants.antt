use Rattle.label_cells.specs.ShareCells.{AreOfRanks}
use Rattle.label_cells.proofs.share_cells.of_ranks.Given as goal

abbrev pub invariant-loop-k : goal.invariant-loop-k
invariant-loop-k v = AreOfRanks v.ranks v.cells v.numbers v.question v.k v.given.items
