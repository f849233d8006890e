use Rattle.std.proofs.Common.{false, subst, true}
use Rattle.csv.specs.Records.{fields_of}
use Rattle.table_records.specs.Table.{Gives, records_of}
use Rattle.reports.proofs.RecordFacts.{given_at, given_below, none_left}
use Rattle.reports.proofs.records.record_count.Goals as goal

pub returns-in-Ok-false : goal.returns-in-Ok-false
returns-in-Ok-false c =
    let fields = fields_of c.next.new.row in
    none_left (records_of c.args.bytes.now) c.loop-count.count fields c.next.new.self c.loop-count.invariant.few
    (subst (λ xs. Gives xs false fields c.next.new.self) c.loop-count.invariant.left
    (subst (λ found. Gives c.loop-count.rows found fields c.next.new.self) c.in-Ok-false.field-0-test
    c.in-Ok-false.ensures))

pub loop-count-preserved : goal.loop-count-preserved
loop-count-preserved c =
    let all = records_of c.args.bytes.now in
    let fields = fields_of c.next.new.row in
    let given = subst (λ xs. Gives xs true fields c.next.new.self) c.loop-count.invariant.left
    (subst (λ found. Gives c.loop-count.rows found fields c.next.new.self) c.in-Ok-true.field-0-test
    c.in-Ok-true.ensures) in
    record {
      few = given_below all c.loop-count.count fields c.next.new.self given;
      left = (given_at all c.loop-count.count fields c.next.new.self given).1;
    }
