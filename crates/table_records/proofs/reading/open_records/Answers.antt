use Rattle.csv.specs.Records.{fields_of}
use Rattle.table_records.proofs.ReadingFacts.{few_records}
use Rattle.table_records.proofs.reading.open_records.Goals as goal

pub returns-in-Ok-clause-few : goal.returns-in-Ok-clause-few
returns-in-Ok-clause-few c =
    few_records c.args.bytes.now (fields_of c.read_header.new.header) c.read_header.new.records
    (rw (← c.new-records.ensures) c.in-Ok.ensures.records) c.requires
