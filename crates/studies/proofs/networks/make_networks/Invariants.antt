use Rattle.std.proofs.Common.{◌≡◌, ◌≤◌, length, drop, take}
use Rattle.studies.specs.Parts.{network_faults, networks_of}
use Rattle.studies.proofs.networks.make_networks.Given as goal

abbrev pub invariant-loop-i : goal.invariant-loop-i
invariant-loop-i l = record {
  within : l.i ≤ length l.scenarios;
  faults : network_faults l.feed l.runs 0 l.scenarios ≡ network_faults l.feed l.runs l.i (drop l.i l.scenarios);
  so_far : l.networks.items ≡ networks_of l.feed l.runs l.feet (take l.i l.scenarios);
}
