use Rattle.std.proofs.Common.{All, Some, map, string_bytes, take}
use Rattle.gtfs_tables.specs.Files.{IsWithinLimit}
use Rattle.program.specs.Files.{AreScenarios}
use Rattle.program.proofs.reading.scenario_files.Given as goal

abbrev pub invariant-loop-path : goal.invariant-loop-path
invariant-loop-path g l = record {
  files : AreScenarios (g.D.Disk.finds l.disk) (map string_bytes (take l.path-index l.paths)) l.files.items;
  limit : All (λ f. IsWithinLimit (Some f.bytes)) l.files.items;
}
