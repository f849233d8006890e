use Rattle.std.proofs.Common.{◌≡◌, ◌≤◌, length, drop, take}
use Rattle.studies.specs.Names as spec
use Rattle.studies.proofs.names.check_names.Given as goal

abbrev pub invariant-loop-i : goal.invariant-loop-i
invariant-loop-i l = record {
  within : l.i ≤ length l.files;
  left : spec.name_faults l.files ≡ spec.name_faults_after (take l.i l.files) (drop l.i l.files);
}
