use Rattle.std.proofs.Common.{◌≡◌, ap, map, refl}
use Rattle.std.proofs.lemmas.Result.{err_from_is_err_and}
use Rattle.scenarios.specs.EditRows.{row_at}
use Rattle.scenarios.specs.Files.{rows_in}
use Rattle.scenarios.proofs.FileFacts.{all_named, record_told}
use Rattle.scenarios.proofs.files.read_edits.Goals as goal

pub returns-in_err-read-clause-fault : goal.returns-in_err-read-clause-fault
returns-in_err-read-clause-fault c =
    let p = err_from_is_err_and c.from_residual-in_err-read.result c.from_residual-in_err-read.ensures.1 in
    let columns = c.columns_in.result in
    let are : rows_in c.args.bytes.now ≡ map (row_at columns) c.in_ok-file.file.records =
    rw (c.in_ok-file.ensures.records, c.columns_in.ensures) refl in
    rw (p.1, p.2)
    (record_told c.args.bytes.now c.args.feed.now columns c.in_ok-file.file.records c.in_err-read.field-0.0
    c.in_ok-file.ensures.columns are c.in_err-read.ensures.fault)

pub check_times-requires : goal.check_times-requires
check_times-requires c =
    let edits = ap (λ s. s.edits) c.in_ok-read.ensures.good.1 in
    rw edits (all_named c.args.feed.now (map (row_at c.columns_in.result) c.in_ok-file.file.records))
