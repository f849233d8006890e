use Rattle.std.proofs.Common.{◌≡◌, ◌+◌, ◌<◌, length, inl, inr, refl, arith}
use Rattle.std.proofs.lemmas.Bool.{cases_lt}
use Rattle.useful_minutes.proofs.SearchedMinutes.{no_less, stood_next, stood_more}
use Rattle.useful_minutes.proofs.plan.stand_ins.Goals as goal
use Rattle.useful_minutes.proofs.plan.stand_ins.Goals.{then-searched-at, else-searched-at}

pub overflow_cast-at : goal.overflow_cast-at
overflow_cast-at c =
    let searched = c.args.searched.now in
    let here : c.if-searched-at.at < length searched = elim c.if-searched-at.branch [
      | then-searched-at w ↦
          let n = stood_next c.args.minutes searched c.requires.minutes c.loop-m.m c.loop-m.at c.loop-m-test.true
          c.loop-m.invariant.within c.loop-m.invariant.reached w.if-searched-at.true in
          omega (arith, n.0, w.at-is)
      | else-searched-at w ↦ omega (arith, w.at-is, c.loop-m.invariant.within)
    ] in
    let low = no_less searched c.requires.minutes.ascends c.if-searched-at.at here in
    let high = c.requires.minutes.within c.if-searched-at.at here in
    omega (arith, low, high, c.requires.few)

pub loop-m-preserved : goal.loop-m-preserved
loop-m-preserved c =
    let searched = c.args.searched.now in
    let m = c.loop-m.m in
    let old = c.loop-m.invariant in
    rw (c.in_ok-push.ensures.items, c.in_ok-push-2.ensures.items) (elim c.if-searched-at.branch [
      | then-searched-at w ↦
          let n = stood_next c.args.minutes searched c.requires.minutes m c.loop-m.at c.loop-m-test.true old.within
          old.reached w.if-searched-at.true in
          rw w.at-is (stood_more searched m (c.loop-m.at + 1) c.loop-m.positions.items c.loop-m.waits.items _ old.long
          old.too old.each n.0 n.1 (λ i below. elim (cases_lt i c.loop-m.at) [
            | inl lt ↦ old.passed i lt
            | inr ge ↦
                let e : i ≡ c.loop-m.at = omega (arith, ge, below) in
                rw e w.if-searched-at.true
          ]) refl)
      | else-searched-at w ↦ rw w.at-is (stood_more searched m c.loop-m.at c.loop-m.positions.items c.loop-m.waits.items
          _ old.long old.too old.each old.within (omega (arith, w.if-searched-at.false)) old.passed refl)
    ])
