use Rattle.std.proofs.Common.{◌≡◌, ◌+◌, ◌∷◌, ◌∙◌, ℕ, Bool, true, false, [], List, Option, Some, None, ap, length, map}
use Rattle.std.proofs.Common.{refl, set, sym}
use Rattle.std.proofs.lemmas.List.{length-map, map-append}
use Rattle.std.specs.Prelude.{is_none, is_some, not, unwrap_or}
use Rattle.csv.specs.Records.{fields_of}
use Rattle.table_records.specs.Fields.{number_of}
use Rattle.table_records.proofs.FaultFacts.{faults_pass, faults_told}
use Rattle.gtfs_tables.specs.NamedStops.{NamedRow, checks, row_at, stops_named}
use Rattle.gtfs_tables.proofs.MarkFacts.{first_told}
use Rattle.gtfs_tables.proofs.NamedFacts.{named_more, no_fault, no_number, stop_told}
use Rattle.gtfs_tables.proofs.named_stops.NamedReaderRecordTaker.take.Goals as goal
use Rattle.gtfs_tables.proofs.named_stops.NamedReaderRecordTaker.take.Goals.{else-self-via-then-self+else-is_none}
use Rattle.gtfs_tables.proofs.named_stops.NamedReaderRecordTaker.take.Goals.{else-self-via-else-self}

tested : (o : Option ℕ) (b : Bool) → is_some o ≡ not b → is_none o ≡ b
tested (Some n) true e = cc e
tested (Some n) false e = refl
tested None true e = refl
tested None false e = cc e

pub returns-clause-good : goal.returns-clause-good
returns-clause-good c start before at makes =
    let stops = c.args.self.now.feed.now.stops in
    let row = row_at c.args.self.now.columns in
    let fields = fields_of c.args.row.now in
    let rows : List NamedRow = map row before in
    let (none, number, marked) = rw c.field.ensures at (c.in-Ok.ensures.good (stops_named rows) makes.1.marked) in
    let count : c.number-count.result ≡ number_of (row fields).count =
    rw (c.trim.ensures, c.field-2.ensures) at c.number-count.ensures in
    let stated : c.args.self.now.is_counted ≡ true →
    is_none (number_of (row fields).count) ≡ false = λ counted. elim c.else-self.branch [
      | else-self-via-then-self+else-is_none w ↦
          ap is_none (sym count) ∙ tested c.number-count.result w.is_none.result w.is_none.ensures
          ∙ w.if-is_none.false
      | else-self-via-else-self w ↦ cc (counted, w.if-self.false)
    ]
    in
    let clean = no_fault stops rows (row fields) none c.args.self.now.is_counted stated in
    let value = c.unwrap_or.ensures ∙ ap (λ (o : Option ℕ). unwrap_or o 0) count in
    rw (map-append row before (fields ∷ [])) (
      faults_pass c.args.self.now.name (checks c.args.self.now.is_counted stops) rows (row fields) makes.0 clean,
      named_more stops c.args.table.now _ rows (row fields) c.in-Ok.stop c.known.ensures.distinct_stops makes.1 marked
          c.in_ok-push.ensures.items (ap (set c.args.table.now.counts.items c.in-Ok.stop.0) value) none number,
    )

pub returns-in-Err-clause-fault : goal.returns-in-Err-clause-fault
returns-in-Err-clause-fault c start before after at makes =
    let stops = c.args.self.now.feed.now.stops in
    let row = row_at c.args.self.now.columns in
    let fields = fields_of c.args.row.now in
    let rows : List NamedRow = map row before in
    let own = checks c.args.self.now.is_counted stops in
    let mine = rw c.field.ensures at (c.in-Err.ensures.fault (stops_named rows) makes.1.marked) in
    let first = stop_told stops rows (row fields) c.args.self.now.is_counted c.in-Err.what mine in
    let here = at ∙ ap (λ n. n + 2) (sym (length-map before row)) in
    rw (map-append row before (fields ∷ after), c.at.ensures)
    (faults_told c.args.self.now.name own _ rows (map row after) (row fields) makes.0
    (first_told c.args.self.now.name c.args.at (length rows + 2) c.in-Err.what (own rows (row fields)) here
    first))

pub returns-then-is_none-clause-fault : goal.returns-then-is_none-clause-fault
returns-then-is_none-clause-fault c start before after at makes =
    let stops = c.args.self.now.feed.now.stops in
    let row = row_at c.args.self.now.columns in
    let fields = fields_of c.args.row.now in
    let rows : List NamedRow = map row before in
    let own = checks c.args.self.now.is_counted stops in
    let (none, number, marked) = rw c.field.ensures at (c.in-Ok.ensures.good (stops_named rows) makes.1.marked) in
    let count : c.number-count.result ≡ number_of (row fields).count =
    rw (c.trim.ensures, c.field-2.ensures) at c.number-count.ensures in
    let bad = ap is_none (sym count) ∙ tested c.number-count.result c.is_none.result c.is_none.ensures
    ∙ c.if-is_none.true in
    let first = no_number stops rows (row fields) none c.args.self.now.is_counted c.if-self.true bad in
    let here = at ∙ ap (λ n. n + 2) (sym (length-map before row)) in
    rw (map-append row before (fields ∷ after), c.at-then-is_none.ensures)
    (faults_told c.args.self.now.name own _ rows (map row after) (row fields) makes.0
    (first_told c.args.self.now.name c.args.at (length rows + 2) _ (own rows (row fields)) here first))
