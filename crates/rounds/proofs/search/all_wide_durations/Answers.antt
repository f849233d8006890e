use Rattle.std.proofs.Common.{arith}
use Rattle.useful_minutes.proofs.SearchedMinutes.{few_searched}
use Rattle.rounds.proofs.search.all_wide_durations.Goals as goal

pub wide_durations-requires-clause-few : goal.wide_durations-requires-clause-few
wide_durations-requires-clause-few c =
    let few = few_searched c.args.plan.window.minutes c.args.plan.searched.now c.requires.plan.plan.are in
    let long = c.requires.plan.times.count in
    omega (arith, few, long)
