-- The first fault of a scenario's file, and the trips that its edits shift.
use Rattle.std.proofs.Common.{◌≡◌, ◌∙◌, ◌<◌, ◌+◌, ◌++◌, ℕ, suc, ℤ, false, List, [], ◌∷◌, Option, Some, None, length}
use Rattle.std.proofs.Common.{map, refl, sym, ap, subst, inl, inr, arith, append_assoc}
use Rattle.std.specs.Prelude.{All, option_and_then, option_map, slice_get}
use Rattle.std.proofs.lemmas.List.{length-map}
use Rattle.std.proofs.lemmas.List.Elements.{All-cons, All-nil}
use Rattle.std.proofs.lemmas.List.Quantifiers.{position-Some}
use Rattle.std.proofs.lemmas.Option.{same_Some}
use Rattle.std.specs.List.{cons_option}
use Rattle.std.specs.Str.{bytes_eq}
use Rattle.table_records.specs.Reading.{lacks_column}
use Rattle.table_records.specs.Table.{records_of}
use Rattle.table_records.proofs.RowFacts.{first_map}
use Rattle.table_records.proofs.FaultFacts.{first_append}
use Rattle.gtfs_tables.specs.Feed.{FeedData}
use Rattle.gtfs_tables.specs.declared.trip.FeedTrip.{FeedTrip}
use Rattle.scenarios.specs.EditRows.{EditRow, edit_by, edit_of, route_no, row_at, row_faults, seconds_of, trip_no}
use Rattle.scenarios.specs.Faults.{Tells}
use Rattle.scenarios.specs.Files.{edits_of, faults_from, required, rows_in, scenario_faults}
use Rattle.scenarios.specs.ShiftedTimes.{NamesTrip, range_faults}
use Rattle.scenarios.specs.declared.edit_rows.Action.{Action}
use Rattle.scenarios.specs.declared.edit_rows.Action.TheVariants as action
use Rattle.scenarios.specs.declared.edit_rows.EditColumns.{EditColumns}
use Rattle.scenarios.specs.declared.edits.Edit.{Edit}
use Rattle.scenarios.specs.declared.edits.Edit.TheVariants as edit
use Rattle.scenarios.specs.declared.faults.ScenarioFault.{ScenarioFault}
use Rattle.scenarios.specs.declared.faults.ScenarioWhat.{ScenarioWhat}

tells_more : (e : ScenarioFault) (xs ys : List ScenarioFault) → Tells e xs → Tells e (xs ++ ys)
tells_more e xs ys t = elim t [ inl m ↦ inl m | inr h ↦ inr (first_append xs ys e h) ]

-- the first fault of the records is that of the file
pub record_told : (bytes : List ℕ) (feed : FeedData) (columns : EditColumns) (rows : List (List (List ℕ)))
    (e : ScenarioFault) → lacks_column required (records_of bytes) ≡ false
    → rows_in bytes ≡ map (row_at columns) rows → Tells e (faults_from feed 2 (map (row_at columns) rows)) →
    Tells e (scenario_faults bytes feed)
record_told bytes feed columns rows e has are told =
    rw has (tells_more e (faults_from feed 2 (rows_in bytes))
    (range_faults feed (edits_of feed (rows_in bytes)) 2 (edits_of feed (rows_in bytes)))
    (rw are told))

shift_named : (feed : FeedData) (r : EditRow) (e : Edit) (trip : Option ℕ) → trip_no feed r.id ≡ trip →
    option_and_then (λ t. option_map (edit.Shift t) (seconds_of r.seconds)) trip ≡ Some e → NamesTrip feed e
shift_named feed r e None is h = cc h
shift_named feed r e (Some t) is h = by (seconds_of r.seconds) h
  where
    by : (o : Option ℤ) → option_map (edit.Shift t) o ≡ Some e → NamesTrip feed e
    by None h = cc h
    by (Some z) h =
        let at = position-Some (bytes_eq r.id) (map (λ (t : FeedTrip). t.id) feed.trips) t [] is in
        let same = length-map feed.trips (λ (t : FeedTrip). t.id) in
        let within : t < length feed.trips = omega (arith, at.0, same) in
        subst (NamesTrip feed) (same_Some (edit.Shift t z) e h) within

named_by : (feed : FeedData) (r : EditRow) (e : Edit) (o : Option Action) → edit_by feed r o ≡ Some e → NamesTrip feed e
named_by feed r e None h = cc h
named_by feed r e (Some action.RemoveRoute) h = by (route_no feed r.id) h
  where
    by : (o : Option ℕ) → option_map edit.RemoveRoute o ≡ Some e → NamesTrip feed e
    by None h = cc h
    by (Some n) h = subst (NamesTrip feed) (same_Some (edit.RemoveRoute n) e h) tt
named_by feed r e (Some action.RemoveTrip) h = by (trip_no feed r.id) h
  where
    by : (o : Option ℕ) → option_map edit.RemoveTrip o ≡ Some e → NamesTrip feed e
    by None h = cc h
    by (Some n) h = subst (NamesTrip feed) (same_Some (edit.RemoveTrip n) e h) tt
named_by feed r e (Some action.ShiftTrip) h = shift_named feed r e (trip_no feed r.id) refl h

-- the edits of records shift trips of the feed
pub all_named : (feed : FeedData) (rows : List EditRow) → All (NamesTrip feed) (edits_of feed rows)
all_named feed [] = All-nil (NamesTrip feed)
all_named feed (r ∷ rows) = by (edit_of feed r) (λ e h. named_by feed r e _ h) (all_named feed rows)
  where
    by : (o : Option Edit) → ((e : Edit) → o ≡ Some e → NamesTrip feed e) → All (NamesTrip feed) (edits_of feed rows) →
        All (NamesTrip feed) (cons_option o (edits_of feed rows))
    by None h rest = rest
    by (Some e) h rest = All-cons (NamesTrip feed) e (edits_of feed rows) (h e refl) rest

from_append : (feed : FeedData) (at : ℕ) (xs ys : List EditRow) →
    faults_from feed at (xs ++ ys) ≡ faults_from feed at xs ++ faults_from feed (length xs + at) ys
from_append feed at [] ys = let zero : at ≡ 0 + at = omega arith in ap (λ n. faults_from feed n ys) zero
from_append feed at (x ∷ xs) ys =
    let here = map (λ w. record { at = at; what = w }) (row_faults feed at x) in
    let later : length xs + (at + 1) ≡ suc (length xs) + at = omega arith in
    ap (λ (l : List ScenarioFault). here ++ l)
    (from_append feed (at + 1) xs ys ∙ ap (λ n. faults_from feed (at + 1) xs ++ faults_from feed n ys) later)
    ∙ sym (append_assoc here (faults_from feed (at + 1) xs) (faults_from feed (suc (length xs) + at) ys))

cons_append : {X : Type 0} (o : Option X) (xs ys : List X) → cons_option o (xs ++ ys) ≡ cons_option o xs ++ ys
cons_append None xs ys = refl
cons_append (Some x) xs ys = refl

-- the edit of one record more
pub edits_more : (feed : FeedData) (xs : List EditRow) (r : EditRow) (e : Edit) → edit_of feed r ≡ Some e →
    edits_of feed (xs ++ r ∷ []) ≡ edits_of feed xs ++ e ∷ []
edits_more feed [] r e h = ap (λ (o : Option Edit). cons_option o []) h
edits_more feed (x ∷ xs) r e h =
    ap (λ (l : List Edit). cons_option (edit_of feed x) l) (edits_more feed xs r e h)
    ∙ cons_append (edit_of feed x) (edits_of feed xs) (e ∷ [])

-- one record more has no fault
pub record_passes : (feed : FeedData) (xs : List EditRow) (r : EditRow) (at : ℕ) → at ≡ length xs + 2 →
    faults_from feed 2 xs ≡ [] → row_faults feed at r ≡ [] → faults_from feed 2 (xs ++ r ∷ []) ≡ []
record_passes feed xs r at is none h =
    let here : row_faults feed (length xs + 2) r ≡ [] = subst (λ n. row_faults feed n r ≡ []) is h in
    from_append feed 2 xs (r ∷ []) ∙ rw (none, here) refl

-- the first fault of a record is that of all records, where those before it have none
pub record_refused : (feed : FeedData) (xs ys : List EditRow) (r : EditRow) (at : ℕ) (w : ScenarioWhat) →
    at ≡ length xs + 2 → faults_from feed 2 xs ≡ [] → slice_get (row_faults feed at r) 0 ≡ Some w
    → Tells (record { at = at; what = w }) (faults_from feed 2 (xs ++ r ∷ ys))
record_refused feed xs ys r at w is none h =
    let n = length xs + 2 in
    let here : slice_get (row_faults feed n r) 0 ≡ Some w =
    subst (λ m. slice_get (row_faults feed m r) 0 ≡ Some w) is h in
    let first = first_append (map (λ w. record { at = n; what = w }) (row_faults feed n r))
    (faults_from feed (n + 1) ys) (record { at = n; what = w })
    (first_map (λ (w : ScenarioWhat). record { at = n; what = w }) (row_faults feed n r) w here) in
    let all : faults_from feed 2 (xs ++ r ∷ ys) ≡ faults_from feed n (r ∷ ys) =
    from_append feed 2 xs (r ∷ ys) ∙ ap (λ (l : List ScenarioFault). l ++ faults_from feed n (r ∷ ys)) none in
    inr (rw is (ap (λ (l : List ScenarioFault). slice_get l 0) all ∙ first))
