use Rattle.std.proofs.Common.{arith}
use Rattle.useful_minutes.proofs.SearchedMinutes.{few_searched}
use Rattle.useful_minutes.proofs.plan.plan_of.Goals as goal

pub overflow_cast-searched : goal.overflow_cast-searched
overflow_cast-searched c =
    let few = few_searched _ _ c.in_ok-minutes.ensures.minutes in
    record { fits = omega (arith, few, c.requires.few, c.len-searched.ensures) }
