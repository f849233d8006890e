use Rattle.timetable.proofs.RenumberedJourneys.{durations_stay, labels_stay}
use Rattle.timetable.proofs.least.renumbered_stops_keep_durations.Goals as goal

pub returns-clause-durations : goal.returns-clause-durations
returns-clause-durations c = durations_stay

pub returns-clause-labels : goal.returns-clause-labels
returns-clause-labels c = labels_stay
