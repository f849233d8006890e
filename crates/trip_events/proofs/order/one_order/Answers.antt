use Rattle.trip_events.proofs.RecordsAscend.{ascend}
use Rattle.trip_events.proofs.OneOrder.{keeps_all, one_order}
use Rattle.trip_events.proofs.order.one_order.Goals as goal

pub returns-clause-keeps : goal.returns-clause-keeps
returns-clause-keeps c = keeps_all

pub returns-clause-ascend : goal.returns-clause-ascend
returns-clause-ascend c = ascend

pub returns-clause-one : goal.returns-clause-one
returns-clause-one c = one_order
