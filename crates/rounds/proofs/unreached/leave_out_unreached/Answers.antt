use Rattle.std.proofs.Common.{◌<◌, arith}
use Rattle.timetable.specs.declared.limits.TheConstants.{END_OF_AXIS}
use Rattle.trip_lanes.specs.Lane.{lane, labels_in}
use Rattle.rounds.specs.Batches.{departure_at}
use Rattle.rounds.proofs.NoneReached.{left_out}
use Rattle.rounds.proofs.unreached.leave_out_unreached.Goals as goal

pub returns-clause-last : goal.returns-clause-last
returns-clause-last c =
    let q = c.args.query in
    let early : departure_at q 0 < END_OF_AXIS = c.requires.search.query.times.on_axis 0 c.requires.search.query.times.some in
    let ride = lane 0 (labels_in (λ row. row) c.run_first.new.workspace.ride.items) in
    let ready = lane 0 (labels_in (λ row. row) c.run_first.new.workspace.ready.labels.items) in
    let given = c.requires.search.last_arrivals in
    record {
      none_later = left_out q.network.now c.known.ensures q.origin.0 (departure_at q 0) q.rides ride ready
          c.in_ok-run_first.ensures.state early c.args.last.now given.none_later given.few c.leave_out.new.last
          c.leave_out.ensures.same (rw (c.as_slice-ride.ensures.value, c.as_slice-ready.ensures.value) at
          c.leave_out.ensures.kept);
      few = λ p. let low = c.leave_out.ensures.falls p in let few = given.few p in omega (arith, low, few);
    }
