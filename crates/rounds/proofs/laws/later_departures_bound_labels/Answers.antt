use Rattle.rounds.proofs.LaterStarts.{later_ready_no_earlier, later_ridden_no_earlier}
use Rattle.rounds.proofs.laws.later_departures_bound_labels.Goals as goal

pub returns-clause-ready : goal.returns-clause-ready
returns-clause-ready c n sooner later k own bound here before =
    later_ready_no_earlier n sooner later here before k own bound

pub returns-clause-rides : goal.returns-clause-rides
returns-clause-rides c n sooner later k own bound here before =
    later_ridden_no_earlier n sooner later here before k own bound
