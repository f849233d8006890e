use Rattle.std.proofs.Common.{◌≡◌, min, get_or, set, ◌∙◌, ap, arith}
use Rattle.timetable.proofs.MappedLists.{mapped_more}
use Rattle.to_here.proofs.front.lower_to_walk.Goals as goal
use Rattle.to_here.proofs.front.lower_to_walk.Goals.{then-walk-duration, else-walk-duration}

pub loop-m-preserved : goal.loop-m-preserved
loop-m-preserved c =
    let old = c.args.durations.now in
    let m = c.loop-m.m in
    let lesser : c.if-walk-duration.durations ≡ min c.args.walk (get_or c.loop-m.durations m 0) =
    elim c.if-walk-duration.branch [
      | then-walk-duration w ↦ omega (arith, w.if-walk-duration, w.durations-is)
      | else-walk-duration w ↦ omega (arith, w.if-walk-duration, w.durations-is)
    ] in
    ap (λ xs. set xs m c.if-walk-duration.durations) c.loop-m.invariant
    ∙ mapped_more (min c.args.walk) old m 0 c.if-walk-duration.durations c.loop-m-test.true
    (lesser ∙ ap (λ xs. min c.args.walk (get_or xs m 0)) c.loop-m.invariant)
