use Rattle.std.proofs.Common.{◌∙◌, inr, refl}
use Rattle.csv.specs.Records.{fields_of}
use Rattle.table_records.proofs.ReadingFacts.{lacks_here, opened}
use Rattle.table_records.proofs.reading.read_header.Goals as goal

pub returns-then-lacks_one-clause-fault : goal.returns-then-lacks_one-clause-fault
returns-then-lacks_one-clause-fault c =
    let whole = opened c.args.records.now c.next.new.self c.in-Ok.found (fields_of c.next.new.row) c.if-not-found.false
    c.in-Ok.ensures in
    let lacks = lacks_here c.args.required.now c.args.records.now c.next.new.self (fields_of c.next.new.row)
    c.lacks_one.result whole c.lacks_one.ensures in
    inr (lacks ∙ c.if-lacks_one.true, refl)

pub returns-clause-columns : goal.returns-clause-columns
returns-clause-columns c =
    let whole = opened c.args.records.now c.next.new.self c.in-Ok.found (fields_of c.next.new.row) c.if-not-found.false
    c.in-Ok.ensures in
    let lacks = lacks_here c.args.required.now c.args.records.now c.next.new.self (fields_of c.next.new.row)
    c.lacks_one.result whole c.lacks_one.ensures in
    lacks ∙ c.if-lacks_one.false
