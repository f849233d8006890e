use Rattle.std.proofs.Common.{sym, inr}
use Rattle.std.proofs.lemmas.Result.{err_from_is_err_and}
use Rattle.csv.specs.Records.{fields_of}
use Rattle.table_files.specs.Transfers.{TransferRow, row_at}
use Rattle.table_files.proofs.TransferFacts.{transfers_more}
use Rattle.table_files.proofs.transfers.TransferReaderRecordReader.add.Goals as goal

pub returns-in_err-link-clause-fault : goal.returns-in_err-link-clause-fault
returns-in_err-link-clause-fault c =
    let (e, is, same) = err_from_is_err_and c.from_residual.result c.from_residual.ensures.1 in
    rw (is, same) (λ start before at are. inr (rw (sym at) c.in_err-link.ensures.fault))

pub returns-clause-good : goal.returns-clause-good
returns-clause-good c start before at are =
    let r : TransferRow = row_at c.args.self.now.columns (fields_of c.args.row.now) in
    let (none, is) = c.in_ok-link.ensures.good in (
      none,
      transfers_more c.args.self.now.places.now c.args.table.now _ before r c.args.at c.in_ok-link.link at is
          c.in_ok-take.ensures are,
    )
