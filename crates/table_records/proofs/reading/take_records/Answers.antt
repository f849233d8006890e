use Rattle.std.proofs.Common.{◌∷◌, ◌++◌, ◌∙◌, [], ap, append_assoc, arith, length-append, sym}
use Rattle.csv.specs.Records.{fields_of}
use Rattle.table_records.proofs.ReadingFacts.{one_left, opened}
use Rattle.table_records.proofs.reading.take_records.Goals as goal

pub take-requires-clause-few : goal.take-requires-clause-few
take-requires-clause-few g c =
    let (seen, at, few, room, makes, all) = c.loop-row.invariant in
    let some = one_left c.loop-row.records c.next_of.new.records c.in_ok-next_of.field-0 (fields_of c.next_of.new.row)
    c.if-branch.true c.in_ok-next_of.ensures.given in
    omega (arith, at, few, some, c.requires.few)

pub loop-row-preserved : goal.loop-row-preserved
loop-row-preserved g c =
    let (seen, at, few, room, makes, all) = c.loop-row.invariant in
    let fields = fields_of c.next_of.new.row in
    let given = c.in_ok-next_of.ensures.given in
    let rest = c.next_of.new.records in
    let some = one_left c.loop-row.records rest c.in_ok-next_of.field-0 fields c.if-branch.true given in
    let whole = opened c.loop-row.records rest c.in_ok-next_of.field-0 fields c.if-branch.true given in
    let more = length-append seen (fields ∷ []) in (
      seen ++ fields ∷ [],
      omega (arith, at, more),
      omega (arith, few, some, more),
      c.in_ok-take.ensures.room,
      c.in_ok-take.ensures.good c.args.table.now seen at makes,
      append_assoc seen (fields ∷ []) c.next_of.new.records ∙ ap (λ l. seen ++ l) (sym whole) ∙ all,
    )
