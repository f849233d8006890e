use Rattle.reversal.proofs.MirroredNetworks.{last_departures_are_horizons, mirrored_is_net}
use Rattle.reversal.proofs.MirroredNetworks.{mirrored_twice, mirrored_is_unique}
use Rattle.reversal.proofs.laws.mirrored_networks_are_networks.Goals as goal

pub returns-clause-accepted : goal.returns-clause-accepted
returns-clause-accepted c = mirrored_is_net

pub returns-clause-unique : goal.returns-clause-unique
returns-clause-unique c = mirrored_is_unique

pub returns-clause-twice : goal.returns-clause-twice
returns-clause-twice c = mirrored_twice

pub returns-clause-horizons : goal.returns-clause-horizons
returns-clause-horizons c = last_departures_are_horizons
