use Rattle.std.proofs.Common.{◌≡◌, ◌∙◌, ◌==◌, ◌&&◌, ◌<◌, ◌-◌, List, ap, arith, false, true, get_or, length, of_z, sym}
use Rattle.std.proofs.Common.{to_z, w64, Bool, ℕ, ℤ}
use Rattle.std.specs.List.{list_all}
use Rattle.std.proofs.lemmas.Bool.Decides.{nat_tests}
use Rattle.std.proofs.lemmas.Int.{to_z-of_z}
use Rattle.timetable.specs.declared.trips.Event.{Event}
use Rattle.service_days.specs.Instances.{departures_of}
use Rattle.scenarios.specs.ShiftedTimes.{begins_in_range, ends_in_range, is_departure_in_range, is_trip_in_range}
use Rattle.scenarios.proofs.TripRanges.{by_departures, by_own_times, first_before_last}
use Rattle.scenarios.proofs.shifted_times.is_in_range.Goals as goal

-- what an index past the end would read
abbrev none : Event
none = record { stop = record { 0 = 0 }; arrive = 0; depart = 0; board = false; alight = false }

-- the same list has as few elements
as_empty : {A : Type 0} (b t : Bool) (xs ys : List A) → b ≡ t → b ≡ (length xs == 0) → xs ≡ ys → (length ys == 0) ≡ t
as_empty b t xs ys is so same = ap (λ l. length l == 0) (sym same) ∙ sym so ∙ is

some : (n : ℕ) → (n == 0) ≡ false → 0 < n
some n h = grind (arith, nat_tests)

pub returns-then-begins_in_range : goal.returns-then-begins_in_range
returns-then-begins_in_range c =
    let z = to_z w64 (of_z w64 c.args.seconds) in
    let same : z ≡ c.args.seconds = to_z-of_z w64 c.args.seconds c.ranges.seconds in
    let trip = c.args.trip.now in
    let events = c.as_slice-events.result.now in
    let has_events = as_empty c.is_empty.result false events trip.events c.if-is_empty.false c.is_empty.ensures
    c.as_slice-events.ensures in
    let no_rows = as_empty c.is_empty-2.result true c.as_slice-rows.result.now trip.departures c.if-is_empty-2.true
    c.is_empty-2.ensures c.as_slice-rows.ensures in
    c.ends_in_range.ensures ∙ ap (λ b. b && ends_in_range z (get_or events (length events - 1) none).depart)
    (sym c.if-begins_in_range.true ∙ c.begins_in_range.ensures)
    ∙ ap (λ (l : List Event). begins_in_range z (get_or l 0 none).arrive && ends_in_range z
    (get_or l (length l - 1) none).depart) c.as_slice-events.ensures
    ∙ by_own_times z trip none c.requires.rise has_events no_rows ∙ ap (λ (y : ℤ). is_trip_in_range y trip) same

pub overflow_sub-last-2 : goal.overflow_sub-last-2
overflow_sub-last-2 c =
    let trip = c.args.trip.now in
    let has_events = as_empty c.is_empty.result false c.as_slice-events.result.now trip.events c.if-is_empty.false
    c.is_empty.ensures c.as_slice-events.ensures in
    rw c.as_slice-events.ensures (first_before_last trip.events none c.requires.rise
    (some (length trip.events) has_events))

pub returns : goal.returns
returns c =
    let z = to_z w64 (of_z w64 c.args.seconds) in
    let same : z ≡ c.args.seconds = to_z-of_z w64 c.args.seconds c.ranges.seconds in
    let trip = c.args.trip.now in
    let events = c.as_slice-events.result.now in
    let has_events = as_empty c.is_empty.result false events trip.events c.if-is_empty.false c.is_empty.ensures
    c.as_slice-events.ensures in
    let has_rows = as_empty c.is_empty-2.result false c.as_slice-rows.result.now trip.departures c.if-is_empty-2.false
    c.is_empty-2.ensures c.as_slice-rows.ensures in
    let span = (get_or events (length events - 1) none).depart - (get_or events 0 none).depart in
    c.are_rows_in_range.ensures ∙ ap (list_all (λ row. list_all (is_departure_in_range z span) (departures_of row)))
    c.as_slice-rows.ensures
    ∙ ap (λ (l : List Event). list_all (λ row. list_all
    (is_departure_in_range z ((get_or l (length l - 1) none).depart - (get_or l 0 none).depart))
    (departures_of row)) trip.departures) c.as_slice-events.ensures
    ∙ by_departures z trip none c.requires.rise has_events has_rows ∙ ap (λ (y : ℤ). is_trip_in_range y trip) same
