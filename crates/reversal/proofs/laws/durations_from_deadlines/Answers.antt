use Rattle.reversal.proofs.DurationsReadOut.{later_times_serve, least_up_to, read_out}
use Rattle.reversal.proofs.laws.durations_from_deadlines.Goals as goal

pub returns-clause-least : goal.returns-clause-least
returns-clause-least c = read_out

pub returns-clause-later : goal.returns-clause-later
returns-clause-later c = later_times_serve

pub returns-clause-up_to : goal.returns-clause-up_to
returns-clause-up_to c = least_up_to
