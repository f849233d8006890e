use Rattle.std.proofs.Common.{◌≡◌, map, take}
use Rattle.std.specs.List.{join_with_byte}
use Rattle.studies.specs.MinuteLine.{duration_field}
use Rattle.studies.proofs.plain.line_of.Given as goal

abbrev pub invariant-loop-i : goal.invariant-loop-i
invariant-loop-i l = l.line.items ≡ join_with_byte 44 (map duration_field (take l.i l.durations))
