use Rattle.std.proofs.lemmas.Result.{err_from_is_err_and}
use Rattle.timetable.specs.declared.trips.StopNo.{StopNo}
use Rattle.footpaths.proofs.PairFacts.{none_added, refused_between}
use Rattle.footpaths.proofs.pairs.add_pairs.Goals as goal

pub returns-then-is_empty-clause-good : goal.returns-then-is_empty-clause-good
returns-then-is_empty-clause-good c = none_added c.args.direct.now c.args.from.now c.args.to.now c.args.seconds
    c.if-is_empty.ensures

pub returns-in_err-add_pairs_from-clause-fault : goal.returns-in_err-add_pairs_from-clause-fault
returns-in_err-add_pairs_from-clause-fault c =
    let none : StopNo = record { 0 = 0 } in
    let (e, is, same) = err_from_is_err_and c.from_residual.result c.from_residual.ensures.1 in
    rw (is, same) (refused_between c.args.direct.now c.args.from.now c.args.to.now c.args.seconds c.loop-stop.stop-index
    none _ c.loop-stop-test.true (rw c.loop-stop.invariant at c.in_err-add_pairs_from.ensures.fault))
