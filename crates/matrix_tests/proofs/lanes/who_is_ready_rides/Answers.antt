use Rattle.std.proofs.Common.{◌∙◌, slice_get, ap, sym, arith}
use Rattle.matrix_tests.proofs.Reached.{below_two}
use Rattle.matrix_tests.proofs.lanes.who_is_ready_rides.Goals as goal

pub carry_trip-requires-clause-stops : goal.carry_trip-requires-clause-stops
carry_trip-requires-clause-stops g c k e at =
    let is = c.new.ensures ∙ c.in_ok-events.ensures.items in
    below_two c.at.result c.at-2.result (omega (arith, c.at.ensures)) (omega (
      arith,
      c.at-2.ensures,
    )) k e (sym (ap (λ es. slice_get es k) is) ∙ at)
