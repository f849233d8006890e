use Rattle.std.proofs.Common.{◌≡◌, map, take}
use Rattle.reversal.specs.Mirror.{mirrored_trip}
use Rattle.reversal.proofs.mirror.mirrored_trips.Given as goal

abbrev pub invariant-loop-trip : goal.invariant-loop-trip
invariant-loop-trip l = l.mirrored.items ≡ map (mirrored_trip l.horizon) (take l.trip-index l.trips)
