use Rattle.std.proofs.Common.{◌≡◌, ◌∙◌, ◌<◌, ◌++◌, ◌∷◌, [], false, Some, length, position, arith, sym, ap, true, None}
use Rattle.std.proofs.Common.{inl, refl}
use Rattle.std.proofs.lemmas.Result.{err_from_is_err_and}
use Rattle.std.specs.Str.{bytes_eq}
use Rattle.csv.specs.Records.{fields_of}
use Rattle.table_records.specs.declared.fault.FileName.TheVariants as file
use Rattle.table_records.specs.declared.fault.What.TheVariants as what
use Rattle.table_records.specs.Fields.{is_empty, time_of}
use Rattle.table_files.specs.Frequencies.{FrequencyRow, checks, headway_of, row_at}
use Rattle.table_files.specs.declared.frequencies.Departures.{Departures}
use Rattle.table_records.proofs.RowFacts.{tells_row}
use Rattle.table_files.proofs.FrequencyFacts.{departures_more, no_fault}
use Rattle.table_files.proofs.ServiceFacts.{found}
use Rattle.table_files.proofs.NewIds.{empty_length}
use Rattle.table_files.proofs.frequencies.FrequencyReaderRecordReader.add.Goals as goal

pub returns-clause-good : goal.returns-clause-good
returns-clause-good c start before at is =
    let trips = c.args.self.now.trips.now in
    let r : FrequencyRow = row_at c.args.self.now.columns (fields_of c.args.row.now) in
    let id = c.field-trip.ensures in
    let some : is_empty r.trip ≡ false = rw id at (sym (empty_length c.field-trip.result.now) ∙ sym c.is_empty.ensures
    ∙ c.if-is_empty.false) in
    let trip : Some c.in-Some.trip ≡ position (bytes_eq r.trip) trips = rw id at c.in-Some.ensures in
    let first : Some c.in-Some-read_time.start ≡ time_of r.start = rw c.field.ensures at c.in-Some-read_time.ensures in
    let last : Some c.in-Some-read_time-2.end ≡ time_of r.end = rw c.field-2.ensures at c.in-Some-read_time-2.ensures in
    let headway : Some c.in-Some-read_headway.headway ≡ headway_of r.headway =
    rw c.field-3.ensures at c.in-Some-read_headway.ensures in
    let (none, number, values) = no_fault trips before r c.in-Some.trip c.in-Some-read_time.start
    c.in-Some-read_time-2.end c.in-Some-read_headway.headway some trip first last headway in
    let (v, here, rest) = c.in_ok-add_row.ensures.added in
    let (w, put, set) = rest in
    let inside : c.in-Some.trip < length c.args.table.now.items =
    omega (arith, (found (bytes_eq r.trip) trips c.in-Some.trip trip).0, c.requires.room) in (
      none,
      rw set (departures_more trips c.args.table.now.items before r c.in-Some.trip v w is inside number here (put
          ∙ ap (λ (d : Departures). v.items ++ d ∷ []) (sym values))),
    )

pub returns-then-is_empty-clause-fault : goal.returns-then-is_empty-clause-fault
returns-then-is_empty-clause-fault c start before at is =
    let r : FrequencyRow = row_at c.args.self.now.columns (fields_of c.args.row.now) in
    let none : is_empty r.trip ≡ true = rw c.field-trip.ensures at (sym (empty_length c.field-trip.result.now)
    ∙ sym c.is_empty.ensures ∙ c.if-is_empty.true) in
    tells_row file.Frequencies (checks c.args.self.now.trips.now) before r what.EmptyId c.at.result
    c.args.at c.at.ensures at (rw none refl)

pub returns-in_default-clause-fault : goal.returns-in_default-clause-fault
returns-in_default-clause-fault c start before at is =
    let r : FrequencyRow = row_at c.args.self.now.columns (fields_of c.args.row.now) in
    let some : is_empty r.trip ≡ false = rw c.field-trip.ensures at (sym (empty_length c.field-trip.result.now)
    ∙ sym c.is_empty.ensures ∙ c.if-is_empty.false) in
    let none : None ≡ position (bytes_eq r.trip) c.args.self.now.trips.now =
    rw c.field-trip.ensures at c.in_default.ensures in
    tells_row file.Frequencies (checks c.args.self.now.trips.now) before r what.UnknownTrip c.at-in_default.result
    c.args.at c.at-in_default.ensures at (rw (some, ← none) refl)

pub returns-in_default-read_time-clause-fault : goal.returns-in_default-read_time-clause-fault
returns-in_default-read_time-clause-fault c start before at is =
    let r : FrequencyRow = row_at c.args.self.now.columns (fields_of c.args.row.now) in
    let some : is_empty r.trip ≡ false = rw c.field-trip.ensures at (sym (empty_length c.field-trip.result.now)
    ∙ sym c.is_empty.ensures ∙ c.if-is_empty.false) in
    let trip : Some c.in-Some.trip ≡ position (bytes_eq r.trip) c.args.self.now.trips.now =
    rw c.field-trip.ensures at c.in-Some.ensures in
    let none : None ≡ time_of r.start = rw c.field.ensures at c.in_default-read_time.ensures in
    tells_row file.Frequencies (checks c.args.self.now.trips.now) before r what.BadTime c.at-in_default-read_time.result
    c.args.at c.at-in_default-read_time.ensures at (rw (some, ← trip, ← none) refl)

pub returns-in_default-read_time-2-clause-fault : goal.returns-in_default-read_time-2-clause-fault
returns-in_default-read_time-2-clause-fault c start before at is =
    let r : FrequencyRow = row_at c.args.self.now.columns (fields_of c.args.row.now) in
    let some : is_empty r.trip ≡ false = rw c.field-trip.ensures at (sym (empty_length c.field-trip.result.now)
    ∙ sym c.is_empty.ensures ∙ c.if-is_empty.false) in
    let trip : Some c.in-Some.trip ≡ position (bytes_eq r.trip) c.args.self.now.trips.now =
    rw c.field-trip.ensures at c.in-Some.ensures in
    let first : Some c.in-Some-read_time.start ≡ time_of r.start = rw c.field.ensures at c.in-Some-read_time.ensures in
    let none : None ≡ time_of r.end = rw c.field-2.ensures at c.in_default-read_time-2.ensures in
    tells_row file.Frequencies (checks c.args.self.now.trips.now) before r what.BadTime
    c.at-in_default-read_time-2.result c.args.at c.at-in_default-read_time-2.ensures at (rw (
      some,
      ← trip,
      ← first,
      ← none,
    ) refl)

pub returns-in_default-read_headway-clause-fault : goal.returns-in_default-read_headway-clause-fault
returns-in_default-read_headway-clause-fault c start before at is =
    let r : FrequencyRow = row_at c.args.self.now.columns (fields_of c.args.row.now) in
    let some : is_empty r.trip ≡ false = rw c.field-trip.ensures at (sym (empty_length c.field-trip.result.now)
    ∙ sym c.is_empty.ensures ∙ c.if-is_empty.false) in
    let trip : Some c.in-Some.trip ≡ position (bytes_eq r.trip) c.args.self.now.trips.now =
    rw c.field-trip.ensures at c.in-Some.ensures in
    let first : Some c.in-Some-read_time.start ≡ time_of r.start = rw c.field.ensures at c.in-Some-read_time.ensures in
    let last : Some c.in-Some-read_time-2.end ≡ time_of r.end = rw c.field-2.ensures at c.in-Some-read_time-2.ensures in
    let none : None ≡ headway_of r.headway = rw c.field-3.ensures at c.in_default-read_headway.ensures in
    tells_row file.Frequencies (checks c.args.self.now.trips.now) before r what.BadNumber
    c.at-in_default-read_headway.result c.args.at c.at-in_default-read_headway.ensures at (rw (
      some,
      ← trip,
      ← first,
      ← last,
      ← none,
    ) refl)

pub returns-in_err-add_row-clause-fault : goal.returns-in_err-add_row-clause-fault
returns-in_err-add_row-clause-fault c =
    let (e, is, memory) = err_from_is_err_and c.from_residual.result c.from_residual.ensures.1 in
    rw is (λ start before at are. inl memory)
