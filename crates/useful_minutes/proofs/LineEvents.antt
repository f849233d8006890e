-- The events of the trips of a line, and those of a trip one after another.
use Rattle.std.proofs.Common.{◌≡◌, ℕ, zero, suc, ◌+◌, ◌<◌, ◌≤◌, List, length, slice_get, get_or, Some, ◌∙◌, ap}
use Rattle.std.proofs.Common.{arith, []}
use Rattle.std.proofs.lemmas.List.{length-map}
use Rattle.std.proofs.lemmas.Option.{slice_get_within, slice_get-get_or, get_or_from_slice_get}
use Rattle.timetable.specs.declared.trips.Event.{Event}
use Rattle.timetable.specs.declared.trips.Trip.{Trip}
use Rattle.timetable.specs.Networks.{Net, IsNet}
use Rattle.timetable.proofs.KnownParts.{event_moves, event_stays}
use Rattle.timetable.specs.Lines.{Line}
use Rattle.timetable.specs.LineViews.{events_of, rows_of_line}
use Rattle.timetable.proofs.LineLayout.{events_at, row_of}

pub row_long : (trips : List Trip) (row : Line) → length (rows_of_line trips row) ≡ length row
row_long trips row = length-map row (events_of trips)

-- the events of the trip that comes r-th in a line
pub events_here : (trips : List Trip) (row : Line) (r trip : ℕ) (t : Trip) → slice_get row r ≡ Some trip →
    slice_get trips trip ≡ Some t → slice_get (rows_of_line trips row) r ≡ Some t.events
events_here trips row r trip t here runs =
    let below = slice_get_within row r trip here in
    let long : r < length (rows_of_line trips row) = omega (arith, below, row_long trips row) in
    let e : get_or (rows_of_line trips row) r [] ≡ t.events =
    row_of trips row r below
    ∙ (ap (λ (i : ℕ). events_of trips i) (get_or_from_slice_get row r trip 0 here) ∙ events_at trips trip t runs) in
    slice_get-get_or (rows_of_line trips row) r [] long ∙ ap Some e

-- a later event of a trip is no earlier
pub rises : (n : Net) → IsNet n → (trip : ℕ) (t : Trip) → slice_get n.trips trip ≡ Some t →
    (d j i : ℕ) (on off : Event) → i ≡ j + 1 + d → slice_get t.events j ≡ Some on → slice_get t.events i ≡ Some off →
    on.depart ≤ off.arrive
rises n ok trip t runs zero j i on off e from to =
    let next : i ≡ j + 1 = omega arith in
    event_moves n ok trip t j on off runs from (rw next at to)
rises n ok trip t runs (suc d) j i on off e from to =
    let within = slice_get_within t.events i off to in
    let lt : j + 1 < length t.events = omega arith in
    let mid = get_or t.events (j + 1) off in
    let at_mid : slice_get t.events (j + 1) ≡ Some mid = slice_get-get_or t.events (j + 1) off lt in
    let first = event_moves n ok trip t j on mid runs from at_mid in
    let stay = event_stays n ok trip (j + 1) mid (t, runs, at_mid) in
    let rest = rises n ok trip t runs d (j + 1) i mid off (omega arith) at_mid to in
    omega arith
