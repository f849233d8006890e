use Rattle.matrix_tests.proofs.Reached.{far_fits}
use Rattle.matrix_tests.proofs.lanes.narrow_labels_end_at_their_horizon.Goals as goal

pub scan_line-requires-clause-fits : goal.scan_line-requires-clause-fits
scan_line-requires-clause-fits g c l p h = far_fits 4 l p
