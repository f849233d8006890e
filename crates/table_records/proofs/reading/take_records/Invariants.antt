use Rattle.std.proofs.Common.{◌≡◌, ◌+◌, ◌++◌, ℕ, List, length}
use Rattle.table_records.proofs.reading.take_records.Given as goal

abbrev pub invariant-loop-row : goal.invariant-loop-row
invariant-loop-row g l =
    (seen : List (List (List ℕ)))
    × (l.at ≡ length seen + 2)
    × (length seen + length l.records ≡ length l.fn.records)
    × g.T.RecordTaker.HasRoom l.taker l.table l.at
    × g.T.RecordTaker.Makes l.taker l.fn.table seen l.table
    × (seen ++ l.records ≡ l.fn.records)

abbrev pub decreases-loop-row : goal.decreases-loop-row
decreases-loop-row g l = length l.records
