use Rattle.std.proofs.Common.{List, [], inl, map, subst, sym}
use Rattle.std.proofs.lemmas.Result.{err_from_is_err_and}
use Rattle.table_records.specs.Faults.{Tells, faults_after}
use Rattle.table_records.specs.declared.fault.FileName.TheVariants as file
use Rattle.table_files.specs.Transfers.{TransferRow, checks, row_at}
use Rattle.table_records.proofs.TableFacts.{fault_told, table_given}
use Rattle.table_files.proofs.TransferFacts.{count_unused, links_in_range}
use Rattle.table_files.proofs.transfers.read_transfers.Goals as goal

pub returns-clause-good : goal.returns-clause-good
returns-clause-good c =
    let good = rw c.columns_in.ensures at c.read_records-read.ensures.good in
    let rows = c.in_ok-file.ensures.rows in
    rw rows (table_given c.read_records-read.result c.read_records-read.new.table c.and.result _ _ c.and.ensures good
    (λ _ g. (g.0, g.1.links, count_unused c.args.places.now c.read_records-read.new.table _ g.1)))

pub returns-clause-in_range : goal.returns-clause-in_range
returns-clause-in_range c =
    table_given c.read_records-read.result c.read_records-read.new.table c.and.result _ _ c.and.ensures
    c.read_records-read.ensures.good
    (λ _ g. links_in_range c.args.places.now (map (row_at c.columns_in.result) c.in_ok-file.file.records)
    c.read_records-read.new.table.links.items c.known.ensures g.1.links)

pub returns-in_err-file-clause-fault : goal.returns-in_err-file-clause-fault
returns-in_err-file-clause-fault c =
    let (e, is, memory) = err_from_is_err_and c.from_residual.result c.from_residual.ensures.1 in
    rw is (inl memory)

pub returns-clause-fault : goal.returns-clause-fault
returns-clause-fault c =
    let told = rw c.columns_in.ensures at c.read_records-read.ensures.fault in
    fault_told c.read_records-read.result c.read_records-read.new.table c.and.result _ _ c.and.ensures told
    (λ e t. subst (λ (l : List TransferRow). Tells e
    (faults_after file.Transfers (checks c.args.places.now.names) [] l)) (sym c.in_ok-file.ensures.rows) t)

pub read_records-read-requires-clause-few : goal.read_records-read-requires-clause-few
read_records-read-requires-clause-few c = c.in_ok-file.ensures.few
