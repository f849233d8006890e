use Rattle.std.proofs.Common.{◌-◌, inr, arith}
use Rattle.timetable.specs.declared.limits.TheConstants.{END_OF_AXIS}
use Rattle.reversal.proofs.MirroredNetworks.{last_departures_are_horizons}
use Rattle.reversal.proofs.mirror.horizon_of.Goals as goal

pub returns-clause-horizon : goal.returns-clause-horizon
returns-clause-horizon c =
    last_departures_are_horizons (END_OF_AXIS - 1) c.args.network.now c.known.ensures (inr (omega arith))
