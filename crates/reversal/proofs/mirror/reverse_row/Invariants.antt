use Rattle.std.proofs.Common.{◌≡◌, ◌<◌, ◌++◌, ℕ, [], drop, get_or, length}
use Rattle.timetable.specs.Footpaths.{rows_of}
use Rattle.reversal.specs.Mirror.{reversed_between}
use Rattle.reversal.proofs.mirror.reverse_row.Given as goal

-- with the rest of the row, each list gets what it gets from the whole row
abbrev pub invariant-loop-to : goal.invariant-loop-to
invariant-loop-to l =
    record {
      rows : (b : ℕ) → b < length l.lists.items →
          get_or (rows_of l.lists.items) b [] ++ reversed_between l.a b (drop l.to-index l.row)
          ≡ get_or (rows_of l.fn.lists.items) b [] ++ reversed_between l.a b l.row;
      count : length l.lists.items ≡ length l.fn.lists.items;
    }
