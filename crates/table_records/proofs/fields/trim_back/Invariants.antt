use Rattle.std.proofs.Common.{◌≡◌, ◌≤◌, length, take}
use Rattle.table_records.specs.Fields.{trim_end}
use Rattle.table_records.proofs.fields.trim_back.Given as goal

abbrev pub invariant-loop-end : goal.invariant-loop-end
invariant-loop-end l = (trim_end (take l.end l.text) ≡ trim_end l.text) × (l.end ≤ length l.text)

abbrev pub decreases-loop-end : goal.decreases-loop-end
decreases-loop-end l = l.end
