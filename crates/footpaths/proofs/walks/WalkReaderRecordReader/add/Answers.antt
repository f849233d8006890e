use Rattle.std.proofs.Common.{◌+◌, length}
use Rattle.csv.specs.Records.{fields_of}
use Rattle.table_records.specs.declared.fault.FileName.TheVariants as file
use Rattle.footpaths.specs.Walks.{WalkRow, row_at, row_checks}
use Rattle.footpaths.proofs.WalkFacts.{first_told}
use Rattle.footpaths.proofs.walks.WalkReaderRecordReader.add.Goals as goal

pub returns-in-Err-clause-fault : goal.returns-in-Err-clause-fault
returns-in-Err-clause-fault c start before at is =
    let r : WalkRow = row_at c.args.self.now.columns (fields_of c.args.row.now) in
    rw c.at.ensures (first_told file.Footpaths c.args.at (length before + 2)
    c.in-Err.what (row_checks c.args.self.now.feed.now.names r) _ at c.in-Err.ensures.fault)
