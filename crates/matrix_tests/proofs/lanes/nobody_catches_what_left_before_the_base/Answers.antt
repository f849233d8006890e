use Rattle.matrix_tests.proofs.Reached.{far_fits}
use Rattle.matrix_tests.proofs.lanes.nobody_catches_what_left_before_the_base.Goals as goal

pub scan_line-requires-clause-fits : goal.scan_line-requires-clause-fits
scan_line-requires-clause-fits g c l p h = far_fits 2 l p
