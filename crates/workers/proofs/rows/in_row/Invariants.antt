use Rattle.std.proofs.Common.{◌≡◌, ◌++◌, map}
use Rattle.std.specs.Vec.Iter.{into_iter_items}
use Rattle.workers.specs.FoundRows.{row_cells}
use Rattle.workers.proofs.rows.in_row.Given as goal

abbrev pub invariant-loop-of_share : goal.invariant-loop-of_share
invariant-loop-of_share l =
    map row_cells l.fn.given.items ≡ l.shares.items ++ map row_cells (into_iter_items l.of_share-iterator)
