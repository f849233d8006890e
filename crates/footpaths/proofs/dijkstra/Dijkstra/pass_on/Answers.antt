use Rattle.std.proofs.Common.{ℕ, arith}
use Rattle.timetable.specs.declared.trips.StopNo.{StopNo}
use Rattle.footpaths.specs.Dijkstra.{marks}
use Rattle.footpaths.proofs.DijkstraSteps.{leg_passed, leg_skipped}
use Rattle.footpaths.proofs.dijkstra.Dijkstra.pass_on.Goals as goal
use Rattle.footpaths.proofs.dijkstra.Dijkstra.pass_on.Goals.{then-seconds-limit+in_ok-relax, else-seconds-limit}

pub loop-stop-preserved : goal.loop-stop-preserved
loop-stop-preserved c =
    let none : StopNo × ℕ = (record { 0 = 0 }, 0) in
    let leaving = c.args.leaving.now in
    let i = c.loop-stop.stop-index in
    let here = c.loop-stop-test.true in
    let now = marks c.loop-stop.self in
    let low = c.requires.label in
    elim c.if-seconds-limit.branch [
      | then-seconds-limit+in_ok-relax w ↦ rw w.self-is
          (leg_passed c.args.limit c.args.label i leaving (marks c.args.self.now) now (marks w.relax.new.self) none here
          (c.requires.leaving i none here)
          (let fits = w.if-seconds-limit.true in omega (arith, fits, low)) c.loop-stop.invariant w.in_ok-relax.ensures)
      | else-seconds-limit w ↦ rw w.self-is
          (leg_skipped c.args.limit c.args.label i leaving (marks c.args.self.now) now none here (let past =
          w.if-seconds-limit.false in omega (arith, past, low)) c.loop-stop.invariant)
    ]
