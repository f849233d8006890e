use Rattle.csv.specs.Records.{fields_of}
use Rattle.table_files.proofs.TransferFacts.{few_after, rows_after}
use Rattle.table_files.proofs.transfers.open_file.Goals as goal

pub returns-clause-rows : goal.returns-clause-rows
returns-clause-rows c = rw (← c.new-records.ensures)
    (rows_after c.new-records.result c.next.new.self c.in_ok-next.field-0 (fields_of c.next.new.row)
    c.in_ok-next.ensures)

pub returns-clause-few : goal.returns-clause-few
returns-clause-few c = few_after c.args.bytes.now c.new-records.result c.next.new.self c.in_ok-next.field-0
    (fields_of c.next.new.row) c.new-records.ensures c.requires c.in_ok-next.ensures
