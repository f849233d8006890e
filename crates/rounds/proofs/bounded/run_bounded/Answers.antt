use Rattle.std.proofs.Common.{◌≡◌, arith}
use Rattle.rounds.proofs.bounded.run_bounded.Goals as goal

pub returns-clause-labels : goal.returns-clause-labels
returns-clause-labels g c l h =
    let all : c.args.query.rides ≡ c.loop-k.k = omega arith in
    rw all (c.loop-k.invariant.labels.states l h)

pub returns-clause-times : goal.returns-clause-times
returns-clause-times g c saves k x few = c.loop-k.invariant.times.own saves k x (omega arith)
