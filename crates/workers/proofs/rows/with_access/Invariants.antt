use Rattle.std.proofs.Common.{◌≡◌, ◌+◌, ℕ, Option, Some, Vec, Global, length}
use Rattle.std.specs.List.{slice_get}
use Rattle.std.specs.Vec.Iter.{into_iter_items}
use Rattle.collector.specs.Row.{CellsData}
use Rattle.workers.specs.Rows.{IsOfShare}
use Rattle.workers.proofs.rows.with_access.Given as goal

abbrev pub invariant-loop-cells : goal.invariant-loop-cells
invariant-loop-cells l = record {
  count : length l.shares.items + length (into_iter_items l.cells-iterator) ≡ length l.fn.lists.items;
  rest : (j : ℕ) (cells : Vec (Option ℕ) Global) → slice_get (into_iter_items l.cells-iterator) j ≡ Some cells →
      slice_get l.fn.lists.items (length l.shares.items + j) ≡ Some cells;
  done : (j share : ℕ) (given : CellsData) → slice_get l.study.shares.now j ≡ Some share →
      slice_get l.shares.items j ≡ Some given →
      IsOfShare l.durations l.study.opportunities.now l.study.withins.now l.study.destinations.now share
      given;
}
