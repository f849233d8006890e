use Rattle.matrix_tests.proofs.Reached.{far_fits}
use Rattle.matrix_tests.proofs.lanes.narrow_lanes_take_the_first_trip_from_their_base_on.Goals as goal

pub scan_line-requires-clause-fits : goal.scan_line-requires-clause-fits
scan_line-requires-clause-fits g c l p h = far_fits 3 l p
