use Rattle.useful_minutes.proofs.SearchedMinutes.{all_skip_nothing}
use Rattle.useful_minutes.proofs.plan.plan_for.Goals as goal

pub returns-clause-skips : goal.returns-clause-skips
returns-clause-skips c =
    let plan = c.in_ok-plan-2.plan in
    all_skip_nothing c.args.network.now c.args.origin.0 c.args.first c.args.minutes plan.minutes.items
    plan.positions.items c.in_ok-plan-2.ensures.all
