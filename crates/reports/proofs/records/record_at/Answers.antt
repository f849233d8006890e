use Rattle.std.proofs.Common.{◌≡◌, ◌+◌, ◌-◌, ℕ, Some, arith, refl, slice_get, subst, true}
use Rattle.csv.specs.Records.{fields_of}
use Rattle.table_records.specs.Table.{Gives, records_of}
use Rattle.reports.proofs.RecordFacts.{given_at}
use Rattle.reports.proofs.records.record_at.Goals as goal

pub loop-preserved : goal.loop-preserved
loop-preserved c =
    let all = records_of c.args.bytes.now in
    let fields = fields_of c.is_next-in-loop.new.row in
    let step = given_at all c.loop.counter fields c.is_next-in-loop.new.rows
    (subst (λ xs. Gives xs true fields c.is_next-in-loop.new.rows) c.loop.invariant.left
    (c.if-not-is_next-2.ensures refl)) in
    let same : c.loop.counter ≡ c.loop.counter + 1 - 1 = omega arith in
    record {
      some = omega arith;
      left = step.1;
      row = λ _. subst (λ (k : ℕ). slice_get all k ≡ Some fields) same step.0;
    }

pub returns-clause-header : goal.returns-clause-header
returns-clause-header c =
    let fields = fields_of c.is_next.new.row in
    (given_at (records_of c.args.bytes.now) 0 fields c.is_next.new.rows
    (subst (λ xs. Gives xs true fields c.is_next.new.rows) c.new-rows.ensures (c.if-not-is_next.ensures refl))).0
