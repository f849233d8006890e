use Rattle.std.proofs.Common.{◌≡◌, length, ap, ◌∙◌, arith}
use Rattle.useful_minutes.proofs.SearchedMinutes.{skips_nothing}
use Rattle.useful_minutes.proofs.plan.plan_of_useful.Goals as goal

pub returns-clause-skips : goal.returns-clause-skips
returns-clause-skips c =
    let plan = c.in_ok-plan.ensures in
    let told = c.in_ok-mark_useful.ensures in
    let size : length c.as_mut_slice-useful.result.now ≡ c.args.minutes =
    (let e = ap length c.as_mut_slice-useful.ensures.value in omega (
      arith,
      e,
      c.in_ok-marks.ensures.len,
      c.in_ok-marks.marks.ok.0,
    )) in
    let long : length c.mark_useful.new.marks ≡ c.args.minutes = told.same ∙ size in
    skips_nothing c.args.network.now c.args.origin.0 c.args.first c.args.minutes c.mark_useful.new.marks _ _ _
    c.args.lanes long told.covers plan.marked (rw long at plan.plan)
