use Rattle.std.proofs.Common.{◌∙◌, [], sym, arith, below_more}
use Rattle.std.specs.Str.{bytes_eq}
use Rattle.csv.specs.Records.{fields_of}
use Rattle.table_records.specs.Fields.{trimmed}
use Rattle.table_records.proofs.FieldFacts.{field_there, field_missing, first_at, none_at}
use Rattle.table_records.proofs.columns.column.Goals as goal

pub returns-then-eq : goal.returns-then-eq
returns-then-eq c =
    let (lt, is) = field_there (fields_of c.args.header.now) c.loop-text.i c.in-Some.text.now
    (sym c.in-Some.ensures.value) in
    sym (first_at (λ t. bytes_eq (trimmed t) c.args.name.now) (fields_of c.args.header.now) [] c.loop-text.i lt
    c.loop-text.invariant
    (rw (is, ← c.trim.ensures) (sym c.eq.ensures ∙ c.if-eq.true)))

pub loop-text-smaller : goal.loop-text-smaller
loop-text-smaller c =
    let (lt, is) = field_there (fields_of c.args.header.now) c.loop-text.i c.in-Some.text.now
    (sym c.in-Some.ensures.value) in
    omega (arith, lt)

pub loop-text-preserved : goal.loop-text-preserved
loop-text-preserved c =
    let (lt, is) = field_there (fields_of c.args.header.now) c.loop-text.i c.in-Some.text.now
    (sym c.in-Some.ensures.value) in
    below_more _ _ c.loop-text.invariant (rw (is, ← c.trim.ensures) (sym c.eq.ensures ∙ c.if-eq.false))

pub returns : goal.returns
returns c =
    let le = field_missing (fields_of c.args.header.now) c.loop-text.i (sym c.in_default.ensures.value) in
    sym (none_at (λ t. bytes_eq (trimmed t) c.args.name.now) (fields_of c.args.header.now) [] c.loop-text.i le
    c.loop-text.invariant)
