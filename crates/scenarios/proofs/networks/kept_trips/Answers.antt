use Rattle.std.proofs.Common.{inl, inr}
use Rattle.std.proofs.lemmas.Result.{err_from_is_err_and}
use Rattle.scenarios.proofs.RunsTooLarge.{too_large}
use Rattle.scenarios.proofs.networks.kept_trips.Goals as goal

pub returns-in_err-add_run-clause-fault : goal.returns-in_err-add_run-clause-fault
returns-in_err-add_run-clause-fault c =
    let p = err_from_is_err_and c.from_residual.result c.from_residual.ensures.1 in
    rw (p.1, p.2) (elim c.in_err-add_run.ensures.fault [
      | inl m ↦ inl m
      | inr l ↦ inr (
        l.0,
        too_large c.args.feed.now c.args.scenario.now c.args.runs.now c.loop-run.run-index _
            c.loop-run-test.true c.loop-run.trips c.loop-run.invariant.made l.1,
      )
    ])
