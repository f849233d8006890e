use Rattle.rounds.proofs.SkippedDepartures.{all_end_alike, all_follow}
use Rattle.rounds.proofs.laws.skipped_departures_end_alike.Goals as goal

pub returns-clause-ends : goal.returns-clause-ends
returns-clause-ends c = all_end_alike

pub returns-clause-durations : goal.returns-clause-durations
returns-clause-durations c = all_follow
