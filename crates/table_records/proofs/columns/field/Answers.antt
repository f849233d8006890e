use Rattle.std.proofs.Common.{◌≡◌, ◌+◌, ◌≤◌, ◌∙◌, ℕ, List, [], Option, Some, None, arith, refl, sym, ap}
use Rattle.std.specs.Prelude.{unwrap_or}
use Rattle.csv.specs.Records.{field_at, fields_of}
use Rattle.table_records.specs.Columns.{field}
use Rattle.table_records.proofs.FieldFacts.{field_at-slice_get}
use Rattle.table_records.proofs.columns.field.Goals as goal

absent : (row : List (List ℕ)) (column : Option ℕ) (top : ℕ) → field_at row (unwrap_or column top) ≡ None →
    [] ≡ field row column
absent row None top none = refl
absent row (Some i) top none =
    ap (λ (o : Option (List ℕ)). unwrap_or o []) (sym none ∙ field_at-slice_get row i)

there : (row : List (List ℕ)) (column : Option ℕ) (top : ℕ) (text : List ℕ) →
    field_at row (unwrap_or column top) ≡ Some text → unwrap_or column top + 1 ≤ top → text ≡ field row column
there row None top text some below = absurd (omega (arith, below))
there row (Some i) top text some below =
    ap (λ (o : Option (List ℕ)). unwrap_or o []) (sym some ∙ field_at-slice_get row i)

pub returns-in-None : goal.returns-in-None
returns-in-None c =
    absent (fields_of c.args.row.now) c.args.column 18446744073709551615
    (ap (λ (n : ℕ). field_at (fields_of c.args.row.now) n) (sym c.unwrap_or.ensures) ∙ sym c.in-None.ensures.value)

pub returns-in-Some : goal.returns-in-Some
returns-in-Some c =
    let index = c.unwrap_or.ensures in
    let below = c.in-Some.ensures.place in
    there (fields_of c.args.row.now) c.args.column 18446744073709551615 c.in-Some.text.now
    (ap (λ (n : ℕ). field_at (fields_of c.args.row.now) n) (sym index) ∙ sym c.in-Some.ensures.value)
    (rw (← index) below.1)
