use Rattle.std.proofs.Common.{◌≡◌, ◌∙◌, true, false, inl}
use Rattle.std.proofs.lemmas.Bool.{not-false}
use Rattle.csv.specs.Records.{fields_of}
use Rattle.table_records.proofs.RecordsLeft.{read_step}
use Rattle.table_records.proofs.records.Records.next.Goals as goal

pub invariant_of-self-2 : goal.invariant_of-self-2
invariant_of-self-2 c more =
    let plain = c.self.invariant c.if-self.false in
    let read = c.in-Ok.ensures.reads plain.trims plain.ready in
    let found : c.in-Ok.found ≡ true = not-false _ more in
    record {
      goes = c.in-Ok.ensures.goes ∙ plain.goes;
      trims = read.3 ∙ plain.trims;
      flexible = c.in-Ok.ensures.flexible ∙ plain.flexible;
      config = read.2 ∙ plain.config;
      ready = inl (c.in-Ok.ensures.ready plain.trims);
      between = (read_step c.self.inside.reader c.read_byte_record.new.self c.in-Ok.found
          (fields_of c.read_byte_record.new.row) plain read).1 found;
    }

pub returns : goal.returns
returns c =
    let plain = c.self.invariant c.if-self.false in
    let read = c.in-Ok.ensures.reads plain.trims plain.ready in
    rw (← c.self.view_is, c.if-self.false) (read_step c.self.inside.reader c.read_byte_record.new.self c.in-Ok.found
    (fields_of c.read_byte_record.new.row) plain read).0
