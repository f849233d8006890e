use Rattle.std.proofs.Common.{◌≡◌, ◌%◌}
use Rattle.rounds.specs.Arrivals.{AreFoundSoFar}
use Rattle.rounds.specs.Searches.{IsSearch}
use Rattle.rounds.proofs.narrow.run_narrow.Given as goal

abbrev pub invariant-loop-found : goal.invariant-loop-found
invariant-loop-found v =
    record {
      search : IsSearch 65535 v.query v.last.times.items;
      whole : v.found.from % 16 ≡ 0;
      found : AreFoundSoFar v.query v.bounds v.found;
    }

abbrev pub decreases-loop-found : goal.decreases-loop-found
decreases-loop-found v = v.found.from
