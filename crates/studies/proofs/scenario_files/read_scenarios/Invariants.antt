use Rattle.std.proofs.Common.{◌≡◌, ◌≤◌, length, drop, take}
use Rattle.studies.specs.Parts.{edit_faults, scenarios_of}
use Rattle.studies.proofs.scenario_files.read_scenarios.Given as goal

abbrev pub invariant-loop-i : goal.invariant-loop-i
invariant-loop-i l = record {
  within : l.i ≤ length l.files;
  faults : edit_faults l.feed 0 l.files ≡ edit_faults l.feed l.i (drop l.i l.files);
  so_far : l.scenarios.items ≡ scenarios_of l.feed (take l.i l.files);
}
