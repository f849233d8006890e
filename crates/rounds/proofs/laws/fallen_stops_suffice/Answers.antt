use Rattle.rounds.proofs.TripsLeftOut.{fallen_suffice, fallen_full}
use Rattle.rounds.proofs.laws.fallen_stops_suffice.Goals as goal

pub returns-clause-trip : goal.returns-clause-trip
returns-clause-trip c = fallen_suffice

pub returns-clause-round : goal.returns-clause-round
returns-clause-round c = fallen_full
