use Rattle.std.proofs.Common.{◌≡◌, true, false, None, Some, position, refl, sym}
use Rattle.std.specs.Prelude.{is_none, unwrap_or}
use Rattle.std.specs.Str.{bytes_eq}
use Rattle.csv.specs.Records.{fields_of}
use Rattle.table_records.specs.Fields.{number_of}
use Rattle.table_records.specs.declared.fault.FileName.TheVariants as file
use Rattle.table_records.specs.declared.fault.What.TheVariants as what
use Rattle.table_files.specs.Places.{place_named}
use Rattle.table_files.specs.Transfers.{TransferRow, end_of, row_at, used_checks}
use Rattle.table_records.proofs.RowFacts.{first_told}
use Rattle.table_files.proofs.transfers.TransferReader.link.Goals as goal

pub returns-in_default-clause-fault : goal.returns-in_default-clause-fault
returns-in_default-clause-fault c =
    let r : TransferRow = row_at c.args.self.now.columns (fields_of c.args.row.now) in
    let names = c.args.self.now.places.now.names in
    let none : is_none (position (bytes_eq r.from) names) ≡ true =
    sym (rw c.field.ensures at c.in_default.ensures.unknown) in
    first_told file.Transfers c.args.at (used_checks names r) what.UnknownStop c.at.result c.at.ensures (rw none refl)

pub returns-in_default-place-clause-fault : goal.returns-in_default-place-clause-fault
returns-in_default-place-clause-fault c =
    let r : TransferRow = row_at c.args.self.now.columns (fields_of c.args.row.now) in
    let names = c.args.self.now.places.now.names in
    let from : is_none (position (bytes_eq r.from) names) ≡ false =
    sym (rw c.field.ensures at c.in-Some.ensures.unknown) in
    let none : is_none (position (bytes_eq r.to) names) ≡ true =
    sym (rw c.field-2.ensures at c.in_default-place.ensures.unknown) in
    first_told file.Transfers c.args.at (used_checks names r) what.UnknownStop c.at-in_default-place.result
    c.at-in_default-place.ensures (rw (from, none) refl)

pub returns-in_default-number-clause-fault : goal.returns-in_default-number-clause-fault
returns-in_default-number-clause-fault c =
    let r : TransferRow = row_at c.args.self.now.columns (fields_of c.args.row.now) in
    let names = c.args.self.now.places.now.names in
    let from : is_none (position (bytes_eq r.from) names) ≡ false =
    sym (rw c.field.ensures at c.in-Some.ensures.unknown) in
    let to : is_none (position (bytes_eq r.to) names) ≡ false =
    sym (rw c.field-2.ensures at c.in-Some-place.ensures.unknown) in
    let none : None ≡ number_of r.time = rw (c.trim.ensures, c.field-3.ensures) at c.in_default-number.ensures in
    first_told file.Transfers c.args.at (used_checks names r) what.BadNumber c.at-in_default-number.result
    c.at-in_default-number.ensures (rw (from, to, ← none) refl)

pub returns-clause-good : goal.returns-clause-good
returns-clause-good c =
    let r : TransferRow = row_at c.args.self.now.columns (fields_of c.args.row.now) in
    let places = c.args.self.now.places.now in
    let names = places.names in
    let from : is_none (position (bytes_eq r.from) names) ≡ false =
    sym (rw c.field.ensures at c.in-Some.ensures.unknown) in
    let to : is_none (position (bytes_eq r.to) names) ≡ false =
    sym (rw c.field-2.ensures at c.in-Some-place.ensures.unknown) in
    let origin : Some c.in-Some.origin ≡ place_named names places.places r.from =
    rw c.field.ensures at c.in-Some.ensures.named in
    let target : Some c.in-Some-place.target ≡ place_named names places.places r.to =
    rw c.field-2.ensures at c.in-Some-place.ensures.named in
    let seconds : Some c.in-Some-number.seconds ≡ number_of r.time =
    rw (c.trim.ensures, c.field-3.ensures) at c.in-Some-number.ensures in
    let a : c.in-Some.origin ≡ end_of names places.places r.from = rw (← origin) refl in
    let b : c.in-Some-place.target ≡ end_of names places.places r.to = rw (← target) refl in
    let s : c.in-Some-number.seconds ≡ unwrap_or (number_of r.time) 0 = rw (← seconds) refl in (
      rw (from, to, ← seconds) refl,
      λ k. record {
        origin = a k;
        target = b k;
        seconds = s k;
        changes = c.requires k;
        at = c.args.at;
      },
    )
