use Rattle.std.proofs.Common.{◌≡◌, ◌∙◌, false, Some, arith, sym, true, None, inl, refl, nat_le, length}
use Rattle.std.proofs.lemmas.Result.{err_from_is_err_and}
use Rattle.std.specs.List.{list_any}
use Rattle.std.specs.Str.{bytes_eq}
use Rattle.csv.specs.Records.{fields_of}
use Rattle.table_records.specs.declared.fault.FileName.TheVariants as file
use Rattle.table_records.specs.declared.fault.What.TheVariants as what
use Rattle.std.proofs.lemmas.Bool.{le-leb, lt-leb}
use Rattle.table_records.specs.Fields.{is_empty}
use Rattle.table_files.specs.Places.{PlaceRecord, checks, kind_of, row_at}
use Rattle.table_records.proofs.RowFacts.{is_old, tells_row}
use Rattle.table_files.proofs.PlaceFacts.{no_fault, places_more}
use Rattle.table_files.proofs.NewIds.{empty_length, is_new}
use Rattle.table_files.proofs.places.PlaceColumnsRecordReader.add.Goals as goal

pub returns-clause-good : goal.returns-clause-good
returns-clause-good c start before at is =
    let r : PlaceRecord = row_at c.args.self.now (fields_of c.args.row.now) in
    let id = c.field-id.ensures in
    let some : is_empty r.id ≡ false = rw id at (sym (empty_length c.field-id.result.now) ∙ sym c.is_empty.ensures
    ∙ c.if-is_empty.false) in
    let new : list_any (bytes_eq r.id) c.args.table.now.names ≡ false =
    rw id at (is_new c.in_ok-push.field-0 c.if-not-branch.false _ c.in_ok-push.ensures.added) in
    let names = rw (c.if-not-branch.false, id) at c.in_ok-push.ensures.ids in
    let kind : Some c.in-Some.kind ≡ kind_of r.kind = rw (c.trim.ensures, c.field.ensures) at c.in-Some.ensures in (
      no_fault before r c.args.table.now.names c.in-Some.kind (omega arith) some is.names new kind,
      places_more c.args.table.now _ _ before r c.in-Some.kind is kind new names (rw (
        id,
        c.field-2.ensures,
      ) at c.in_ok-add.ensures),
    )

pub returns-then-at-clause-fault : goal.returns-then-at-clause-fault
returns-then-at-clause-fault c start before at is =
    let r : PlaceRecord = row_at c.args.self.now (fields_of c.args.row.now) in
    let full : nat_le 65535 (length before) ≡ true = le-leb _ _ (omega (arith, at, c.if-at.true)) in
    tells_row file.Stops checks before r what.TooMany c.at.result c.args.at c.at.ensures at (rw full refl)

pub returns-then-is_empty-clause-fault : goal.returns-then-is_empty-clause-fault
returns-then-is_empty-clause-fault c start before at is =
    let r : PlaceRecord = row_at c.args.self.now (fields_of c.args.row.now) in
    let room : nat_le 65535 (length before) ≡ false = lt-leb _ _ (omega (arith, at, c.if-at.false)) in
    let none : is_empty r.id ≡ true = rw c.field-id.ensures at (sym (empty_length c.field-id.result.now)
    ∙ sym c.is_empty.ensures ∙ c.if-is_empty.true) in
    tells_row file.Stops checks before r what.EmptyId c.at-then-is_empty.result
    c.args.at c.at-then-is_empty.ensures at (rw (room, none) refl)

pub returns-in_err-push-clause-fault : goal.returns-in_err-push-clause-fault
returns-in_err-push-clause-fault c =
    let (e, is, memory) = err_from_is_err_and c.from_residual.result c.from_residual.ensures.1 in
    rw is (λ start before at are. inl memory)

pub returns-then-not-branch-clause-fault : goal.returns-then-not-branch-clause-fault
returns-then-not-branch-clause-fault c start before at is =
    let r : PlaceRecord = row_at c.args.self.now (fields_of c.args.row.now) in
    let room : nat_le 65535 (length before) ≡ false = lt-leb _ _ (omega (arith, at, c.if-at.false)) in
    let some : is_empty r.id ≡ false = rw c.field-id.ensures at (sym (empty_length c.field-id.result.now)
    ∙ sym c.is_empty.ensures ∙ c.if-is_empty.false) in
    let old : list_any (bytes_eq r.id) c.args.table.now.names ≡ true =
    rw c.field-id.ensures at (is_old c.in_ok-push.field-0 c.if-not-branch.true _ c.in_ok-push.ensures.added) in
    let again = rw is.names at old in
    tells_row file.Stops checks before r what.DuplicateId c.at-then-not-branch.result
    c.args.at c.at-then-not-branch.ensures at (rw (room, some, again) refl)

pub returns-in_default-clause-fault : goal.returns-in_default-clause-fault
returns-in_default-clause-fault c start before at is =
    let r : PlaceRecord = row_at c.args.self.now (fields_of c.args.row.now) in
    let room : nat_le 65535 (length before) ≡ false = lt-leb _ _ (omega (arith, at, c.if-at.false)) in
    let some : is_empty r.id ≡ false = rw c.field-id.ensures at (sym (empty_length c.field-id.result.now)
    ∙ sym c.is_empty.ensures ∙ c.if-is_empty.false) in
    let new : list_any (bytes_eq r.id) c.args.table.now.names ≡ false =
    rw c.field-id.ensures at (is_new c.in_ok-push.field-0 c.if-not-branch.false _ c.in_ok-push.ensures.added) in
    let apart = rw is.names at new in
    let none : None ≡ kind_of r.kind = rw (c.trim.ensures, c.field.ensures) at c.in_default.ensures in
    tells_row file.Stops checks before r what.BadNumber c.at-in_default.result
    c.args.at c.at-in_default.ensures at (rw (room, some, apart, ← none) refl)

pub returns-in_err-add-clause-fault : goal.returns-in_err-add-clause-fault
returns-in_err-add-clause-fault c =
    let (e, is, memory) = err_from_is_err_and c.from_residual-in_err-add.result c.from_residual-in_err-add.ensures.1 in
    rw is (λ start before at are. inl memory)
