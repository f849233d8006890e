use Rattle.rounds.proofs.PlainForms.{carry_trips}
use Rattle.rounds.proofs.laws.rounds_carry_trips.Goals as goal

pub returns : goal.returns
returns c = carry_trips
