use Rattle.std.proofs.Common.{set, rules}
use Rattle.timetable.specs.declared.trips.StopNo.{StopNo}
use Rattle.footpaths.proofs.ChangeFacts.{raised_more, set_within}
use Rattle.footpaths.proofs.changes.raise.Goals as goal

pub loop-stop-preserved : goal.loop-stop-preserved
loop-stop-preserved c =
    let none : StopNo = record { 0 = 0 } in
    let now = c.loop-stop.changes in
    let here = c.loop-stop-test.true in
    record {
      same = search rules;
      raised = λ p within. rw c.max.ensures
          (raised_more c.args.changes.now now c.args.stops.now c.loop-stop.stop-index none c.args.seconds here
          c.loop-stop.invariant.raised p (set_within now _ _ p within));
    }
