use Rattle.std.proofs.Common.{◌≡◌, ◌≤◌, length, map, take}
use Rattle.studies.specs.Names as spec
use Rattle.studies.proofs.names.names_of.Given as goal

abbrev pub invariant-loop-file : goal.invariant-loop-file
invariant-loop-file l = record {
  within : l.file-index ≤ length l.files;
  so_far : map (λ n. n.items) l.names.items ≡ spec.names_of (take l.file-index l.files);
}
