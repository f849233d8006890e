use Rattle.std.proofs.Common.{◌≡◌}
use Rattle.std.specs.Vec.Iter.{into_iter_items}
use Rattle.collector.specs.Offers.{offered}
use Rattle.workers.proofs.run.offer_all.Given as goal

abbrev pub invariant-loop-row : goal.invariant-loop-row
invariant-loop-row l = offered l.collector (into_iter_items l.row-iterator) ≡ offered l.fn.collector l.fn.rows.items
