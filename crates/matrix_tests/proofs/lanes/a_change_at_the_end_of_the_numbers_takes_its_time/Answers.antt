use Rattle.std.proofs.Common.{arith, replicate, slice_index}
use Rattle.std.proofs.lemmas.List.{get_or-replicate}
use Rattle.timetable.specs.declared.least.TheConstants.{NEVER}
use Rattle.matrix_tests.proofs.Reached.{early}
use Rattle.matrix_tests.proofs.lanes.a_change_at_the_end_of_the_numbers_takes_its_time.Goals as goal

pub transfer-requires-clause-rides : goal.transfer-requires-clause-rides
transfer-requires-clause-rides g c l p h ne =
    let low = early 4000000000 (slice_index c.two.result l) (slice_index (replicate 16 NEVER) l) (c.two.ensures l h)
    (get_or-replicate 16 l NEVER 0 h) p ne in
    omega (arith, low)
