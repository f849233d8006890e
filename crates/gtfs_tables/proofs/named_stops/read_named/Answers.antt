use Rattle.std.proofs.Common.{◌∙◌, inl, map, subst, sym}
use Rattle.std.proofs.lemmas.Result.{err_from_is_err_and}
use Rattle.csv.specs.Records.{fields_of}
use Rattle.table_records.specs.Faults.{Tells}
use Rattle.table_records.specs.Table.{records_of}
use Rattle.table_records.proofs.ReadingFacts.{headed, missing}
use Rattle.gtfs_tables.specs.NamedStops.{AreNamed, checks, row_of}
use Rattle.table_records.proofs.TableFacts.{fault_told, table_given}
use Rattle.gtfs_tables.proofs.named_stops.read_named.Goals as goal

pub returns-in_err-file-clause-fault : goal.returns-in_err-file-clause-fault
returns-in_err-file-clause-fault c =
    let (e, is, same_error) = err_from_is_err_and c.from_residual-in_err-file.result
    c.from_residual-in_err-file.ensures.1 in
    rw (is, same_error) (missing c.args.name (map (λ text. text.now) c.args.required.now) row_of
    (checks c.args.is_counted c.args.feed.now.stops) (records_of c.args.bytes.now) c.in_err-file.field-0.0
    c.in_err-file.ensures.fault)

pub returns-in_err-list-clause-fault : goal.returns-in_err-list-clause-fault
returns-in_err-list-clause-fault c =
    let (e, is, memory) = err_from_is_err_and c.from_residual.result c.from_residual.ensures.1 in
    rw is (inl memory)

pub returns-clause-good : goal.returns-clause-good
returns-clause-good c =
    let stops = c.args.feed.now.stops in
    let (faults, rows) = headed c.args.name (map (λ text. text.now) c.args.required.now) row_of
    (checks c.args.is_counted stops) (records_of c.args.bytes.now) (fields_of c.in_ok-file.file.header)
    c.in_ok-file.file.records
    c.in_ok-file.ensures.columns c.in_ok-file.ensures.records in
    let good = rw c.columns_in.ensures at c.take_records-read.ensures.good in
    table_given c.take_records-read.result c.take_records-read.new.table c.and.result _ _ c.and.ensures good
    (λ _ g. (faults ∙ g.0, subst (AreNamed stops c.take_records-read.new.table) (sym rows) g.1))

pub returns-clause-fault : goal.returns-clause-fault
returns-clause-fault c =
    let (faults, rows) = headed c.args.name (map (λ text. text.now) c.args.required.now) row_of
    (checks c.args.is_counted c.args.feed.now.stops) (records_of c.args.bytes.now)
    (fields_of c.in_ok-file.file.header) c.in_ok-file.file.records
    c.in_ok-file.ensures.columns c.in_ok-file.ensures.records in
    let told = rw c.columns_in.ensures at c.take_records-read.ensures.fault in
    fault_told c.take_records-read.result c.take_records-read.new.table c.and.result _ _ c.and.ensures told
    (λ e t. subst (Tells e) (sym faults) t)
