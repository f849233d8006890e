use Rattle.std.proofs.Common.{◌≡◌, length}
use Rattle.table_records.specs.Fields.{trim_start}
use Rattle.table_records.proofs.fields.trim_front.Given as goal

abbrev pub invariant-loop-rest : goal.invariant-loop-rest
invariant-loop-rest l = trim_start l.rest ≡ trim_start l.text

abbrev pub decreases-loop-rest : goal.decreases-loop-rest
decreases-loop-rest l = length l.rest
