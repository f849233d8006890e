use Rattle.rounds.specs.Query.{IsWorkspaceFor}
use Rattle.rounds.specs.Rounds.{AreAfter, AreTimesAfter}
use Rattle.rounds.proofs.bounded.run_bounded.Given as goal

abbrev pub invariant-loop-k : goal.invariant-loop-k
invariant-loop-k g v =
    let never = g.R.LaneLabels.NEVER in
    let rows = g.R.LaneLabels.labels in
    record {
      workspace : IsWorkspaceFor v.query.network.now.stops v.query.lines.now v.workspace;
      labels : AreAfter g.R.LaneLabels.LANES never rows v.query v.fn.batch v.k v.workspace;
      times : AreTimesAfter never rows v.query v.fn.batch v.k v.rounds;
    }
