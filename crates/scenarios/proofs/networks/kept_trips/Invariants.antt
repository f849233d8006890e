use Rattle.std.proofs.Common.{◌≡◌, take, true}
use Rattle.scenarios.specs.Networks.{are_on_axis, trips_of}
use Rattle.scenarios.proofs.networks.kept_trips.Given as goal

abbrev pub invariant-loop-run : goal.invariant-loop-run
invariant-loop-run l = record {
  made : l.trips ≡ trips_of l.feed l.scenario (take l.run-index l.runs);
  axis : are_on_axis l.feed l.scenario (take l.run-index l.runs) ≡ true;
}
