use Rattle.std.proofs.Common.{◌≡◌, true, get_or, arith}
use Rattle.std.proofs.lemmas.Bool.Decides.{nat_tests}
use Rattle.std.proofs.lemmas.Result.{err_from_is_err_and}
use Rattle.timetable.specs.declared.trips.StopNo.{StopNo}
use Rattle.table_files.specs.Ends.{differ}
use Rattle.footpaths.proofs.PairFacts.{refused_from}
use Rattle.footpaths.proofs.pairs.add_pairs_from.Goals as goal

pub returns-in_err-add_pair-clause-fault : goal.returns-in_err-add_pair-clause-fault
returns-in_err-add_pair-clause-fault c =
    let none : StopNo = record { 0 = 0 } in
    let (e, is, same) = err_from_is_err_and c.from_residual.result c.from_residual.ensures.1 in
    let unlike = c.if-stop-from.true in
    let other : differ c.args.from (get_or c.args.to.now c.loop-stop.stop-index none) ≡ true =
    grind (arith, nat_tests) in
    rw (is, same) (refused_from c.args.direct.now c.args.from c.args.seconds c.args.to.now c.loop-stop.stop-index none _
    c.loop-stop-test.true other (rw c.loop-stop.invariant at c.in_err-add_pair.ensures.fault))
