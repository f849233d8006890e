use Rattle.std.proofs.Common.{sym, ◌∙◌, arith}
use Rattle.std.proofs.lemmas.Bool.{false≢true}
use Rattle.useful_minutes.proofs.SearchedMinutes.{picked_more, picked_same}
use Rattle.useful_minutes.proofs.plan.minutes_of.Goals as goal
use Rattle.useful_minutes.proofs.plan.minutes_of.Goals.{then-marks-m+in_ok-push, else-marks-m+else-m-marks+else-next-m}

pub loop-m-preserved : goal.loop-m-preserved
loop-m-preserved c =
    let m = c.loop-m.m in
    elim c.if-marks-m.branch [
      | then-marks-m+in_ok-push w ↦ rw (w.searched-is, w.next-is, w.in_ok-push.ensures.items)
          (picked_more c.args.marks.now m c.gap_of-gap.result c.loop-m.next c.loop-m.searched.items
          c.gap_of-gap.ensures.some c.gap_of-gap.ensures.near c.loop-m.invariant)
      | else-marks-m+else-m-marks+else-next-m w ↦ rw (w.searched-is, w.next-is)
          (picked_same c.args.marks.now m c.gap_of-gap.result c.loop-m.next c.loop-m.searched.items c.loop-m.invariant
          (λ is. false≢true (sym w.if-marks-m.false ∙ is)) (λ e. omega (arith, e, w.if-m-marks.false))
          (omega (arith, w.if-next-m.false)))
    ]
