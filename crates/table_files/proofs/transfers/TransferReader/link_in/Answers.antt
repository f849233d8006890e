use Rattle.std.proofs.Common.{◌≡◌, ◌∙◌, true, false, None, Some, List, [], map, refl, subst, sym}
use Rattle.std.proofs.lemmas.Result.{err_from_is_err_and}
use Rattle.csv.specs.Records.{fields_of}
use Rattle.table_records.specs.Faults.{IsFirst}
use Rattle.table_records.specs.declared.fault.FileName.TheVariants as file
use Rattle.table_records.specs.declared.fault.What.{What}
use Rattle.table_records.specs.declared.fault.What.TheVariants as what
use Rattle.table_files.specs.Places.{kind_of}
use Rattle.table_files.specs.Transfers.{TransferRow, checks, is_used, row_at}
use Rattle.table_records.proofs.RowFacts.{first_told}
use Rattle.table_files.proofs.TransferFacts.{change_by, checks_used, gives, skips, used_by}
use Rattle.table_files.proofs.transfers.TransferReader.link_in.Goals as goal

pub returns-in_default-clause-fault : goal.returns-in_default-clause-fault
returns-in_default-clause-fault c =
    let r : TransferRow = row_at c.args.self.now.columns (fields_of c.args.row.now) in
    let places = c.args.self.now.places.now in
    let names = places.names in
    let none : None ≡ kind_of r.kind = rw (c.trim.ensures, c.field.ensures) at c.in_default.ensures in
    first_told file.Transfers c.args.at (checks names [] r) what.BadNumber c.at.result c.at.ensures (rw (← none) refl)

pub returns-then-not-is_used-clause-good : goal.returns-then-not-is_used-clause-good
returns-then-not-is_used-clause-good c =
    let r : TransferRow = row_at c.args.self.now.columns (fields_of c.args.row.now) in
    let places = c.args.self.now.places.now in
    let names = places.names in
    let kind : Some c.in-Some.kind ≡ kind_of r.kind = rw (c.trim.ensures, c.field.ensures) at c.in-Some.ensures in
    let used : is_used r ≡ false = used_by places names c.args.at r c.in-Some.kind kind ∙ sym c.is_used.ensures
    ∙ c.if-not-is_used.true in
    skips places names c.args.at r c.in-Some.kind kind used

pub link-requires : goal.link-requires
link-requires c =
    let r : TransferRow = row_at c.args.self.now.columns (fields_of c.args.row.now) in
    let places = c.args.self.now.places.now in
    let kind : Some c.in-Some.kind ≡ kind_of r.kind = rw (c.trim.ensures, c.field.ensures) at c.in-Some.ensures in
    c.is_change.ensures ∙ sym (change_by places places.names c.args.at r c.in-Some.kind kind)

pub returns-in_err-link-clause-fault : goal.returns-in_err-link-clause-fault
returns-in_err-link-clause-fault c =
    let r : TransferRow = row_at c.args.self.now.columns (fields_of c.args.row.now) in
    let places = c.args.self.now.places.now in
    let names = places.names in
    let kind : Some c.in-Some.kind ≡ kind_of r.kind = rw (c.trim.ensures, c.field.ensures) at c.in-Some.ensures in
    let used : is_used r ≡ true = used_by places names c.args.at r c.in-Some.kind kind ∙ sym c.is_used.ensures
    ∙ c.if-not-is_used.false in
    let (e, is, same) = err_from_is_err_and c.from_residual.result c.from_residual.ensures.1 in
    rw (is, same)
    (subst (λ (l : List What). IsFirst c.in_err-link.field-0.0
    (map (λ (w : What). record { file = file.Transfers; at = c.args.at; what = w }) l))
    (sym (checks_used places names c.args.at r c.in-Some.kind kind used)) c.in_err-link.ensures.fault)

pub returns-then-not-gives_any-clause-good : goal.returns-then-not-gives_any-clause-good
returns-then-not-gives_any-clause-good c =
    let r : TransferRow = row_at c.args.self.now.columns (fields_of c.args.row.now) in
    let places = c.args.self.now.places.now in
    let names = places.names in
    let kind : Some c.in-Some.kind ≡ kind_of r.kind = rw (c.trim.ensures, c.field.ensures) at c.in-Some.ensures in
    let used : is_used r ≡ true = used_by places names c.args.at r c.in-Some.kind kind ∙ sym c.is_used.ensures
    ∙ c.if-not-is_used.false in
    let (none, is) = c.in_ok-link.ensures.good in
    gives places names c.args.at r c.in-Some.kind kind used c.in_ok-link.link false none is
    (sym c.if-not-gives_any.true ∙ c.gives_any.ensures)

pub returns-clause-good : goal.returns-clause-good
returns-clause-good c =
    let r : TransferRow = row_at c.args.self.now.columns (fields_of c.args.row.now) in
    let places = c.args.self.now.places.now in
    let names = places.names in
    let kind : Some c.in-Some.kind ≡ kind_of r.kind = rw (c.trim.ensures, c.field.ensures) at c.in-Some.ensures in
    let used : is_used r ≡ true = used_by places names c.args.at r c.in-Some.kind kind ∙ sym c.is_used.ensures
    ∙ c.if-not-is_used.false in
    let (none, is) = c.in_ok-link.ensures.good in
    gives places names c.args.at r c.in-Some.kind kind used c.in_ok-link.link true none is
    (sym c.if-not-gives_any.false ∙ c.gives_any.ensures)
