use Rattle.std.proofs.Common.{◌≡◌, ◌<◌, ◌++◌, ℕ, [], drop, get_or, length}
use Rattle.timetable.specs.Footpaths.{rows_of}
use Rattle.reversal.specs.Mirror.{reversed_to}
use Rattle.reversal.proofs.mirror.reversed_lists.Given as goal

-- with the rows of the other stops, each list is complete
abbrev pub invariant-loop-a : goal.invariant-loop-a
invariant-loop-a l =
    record {
      rows : (b : ℕ) → b < length l.lists.items →
          get_or (rows_of l.lists.items) b [] ++ reversed_to b l.a (drop l.a l.feet.walks)
          ≡ reversed_to b 0 l.feet.walks;
      count : length l.lists.items ≡ length l.feet.walks;
    }
