-- The faults of a record, one check at a time, each explained by a check of the file's table.
use Rattle.std.proofs.Common.{◌≡◌, ◌++◌, ℕ, Bool, true, false, List, [], Some, inl, inr, refl, if◌then◌else◌}
use Rattle.std.specs.Prelude.{slice_get}
use Rattle.std.proofs.lemmas.List.Elements.{All-append, All-cons, All-nil}
use Rattle.table_records.specs.Checks.{AreExplained, IsExplained, refuses}
use Rattle.table_records.specs.Columns.{column, field}
use Rattle.table_records.specs.Faults.{when}
use Rattle.table_records.specs.declared.checks.Check.{Check}
use Rattle.table_records.specs.declared.fault.What.{What}
use Rattle.table_records.specs.declared.fault.What.TheVariants as what

module _ {table : List Check} {header fields : List (List ℕ)} where
  -- the fault of one check, where it finds one
  pub only : {bad : Bool} {w : What} → (bad ≡ true → IsExplained table header fields w) →
      AreExplained table header fields (when bad w)
  only {bad = true} {w = w} told = record {
    each = All-cons (IsExplained table header fields) w [] (told refl)
        (All-nil (IsExplained table header fields));
  }
  only {bad = false} told = record { each = All-nil (IsExplained table header fields) }

  pub both : {xs ys : List What} → AreExplained table header fields xs → AreExplained table header fields ys →
      AreExplained table header fields (xs ++ ys)
  both {xs = xs} {ys = ys} some more = record
      { each = All-append (IsExplained table header fields) xs ys some.each more.each }

  -- ... after those of the checks before it
  pub also : {bad : Bool} {w : What} {before : List What} → AreExplained table header fields before →
      (bad ≡ true → IsExplained table header fields w)
      → AreExplained table header fields (before ++ when bad w)
  also all told = both all (only told)

  -- ... of a record that is looked at
  pub where_true : (b : Bool) {xs : List What} → AreExplained table header fields xs →
      AreExplained table header fields (if b then xs else [])
  where_true true all = all
  where_true false all = record { each = All-nil (IsExplained table header fields) }

  -- that there are too many records
  pub by_limit : (bad : Bool) → bad ≡ true → IsExplained table header fields what.TooMany
  by_limit bad is = record { by = inl refl }

  -- a fault of a field, by the check at a position
  pub by_check : {w : What} {c : Check} (i : ℕ) → slice_get table i ≡ Some c → c.2 ≡ w →
      refuses c.1 (field fields (column header c.0.now)) ≡ true
      → IsExplained table header fields w
  by_check {c = c} i at same bad = record { by = inr (c, (i, at), record { what = same; refused = bad }) }

  -- ... by one in which other records have a part
  pub by_others : (bad : Bool) {w : What} {c : Check} (i : ℕ) → slice_get table i ≡ Some c → c.2 ≡ w
      → refuses c.1 (field fields (column header c.0.now)) ≡ true → bad ≡ true → IsExplained table header fields w
  by_others bad i at same any is = by_check i at same any
