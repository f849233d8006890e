use Rattle.std.proofs.Common.{◌≡◌, ◌+◌, ◌-◌, List, arith, rules, sym, subst}
use Rattle.std.specs.Prelude.{All}
use Rattle.service_days.specs.Instances.{IsRun, runs_of_days}
use Rattle.service_days.specs.declared.run.Run.{Run}
use Rattle.service_days.proofs.RunFacts.{all_runs}
use Rattle.service_days.proofs.instances.active.Goals as goal

pub returns-clause-runs : goal.returns-clause-runs
returns-clause-runs c =
    let all = all_runs c.args.feed.now c.known.ensures (c.number_of-day.result - c.args.back)
    (c.args.back + c.args.ahead + 1) (omega arith) in
    let made : c.into_vec.result.items ≡ runs_of_days c.args.feed.now (c.number_of-day.result - c.args.back)
    (c.args.back + c.args.ahead + 1) = search rules in
    subst (λ (l : List Run). All (IsRun c.args.feed.now) l) (sym made) all
