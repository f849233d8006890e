use Rattle.std.proofs.Common.{◌≡◌, ◌+◌, ◌-◌, ◌*◌, length, take}
use Rattle.rounds.specs.Table.{batches_of}
use Rattle.to_here.specs.Search.{AreOriginsSearched, IsSearchOf}
use Rattle.to_here.proofs.search.search_batches.Given as goal

abbrev pub invariant-loop : goal.invariant-loop
invariant-loop l =
    record {
      search : IsSearchOf l.question l.deadlines l.search;
      from : l.search.from + 16 * l.counter ≡ 16 * batches_of (length l.deadlines);
      row : AreOriginsSearched l.question (take (length l.deadlines - l.search.from) l.deadlines) l.row;
    }
