use Rattle.std.proofs.Common.{◌≡◌, take}
use Rattle.table_files.specs.Ends.{pairs_between}
use Rattle.footpaths.specs.Pairs.{with_more}
use Rattle.footpaths.proofs.pairs.add_pairs.Given as goal

abbrev pub invariant-loop-stop : goal.invariant-loop-stop
invariant-loop-stop l = l.direct ≡ with_more l.fn.direct (pairs_between (take l.stop-index l.from) l.to l.seconds)
