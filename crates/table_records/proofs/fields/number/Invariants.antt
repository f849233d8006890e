use Rattle.std.proofs.Common.{◌≡◌, ◌≤◌, drop}
use Rattle.std.specs.List.{list_all}
use Rattle.table_records.specs.Fields.{value_after, is_digit}
use Rattle.table_records.proofs.fields.number.Given as goal

abbrev pub invariant-loop-digit : goal.invariant-loop-digit
invariant-loop-digit l =
    (value_after 0 l.digits ≡ value_after l.value (drop l.digit-index l.digits))
    × (list_all is_digit l.digits ≡ list_all is_digit (drop l.digit-index l.digits))
    × (l.value ≤ 4294967295)
