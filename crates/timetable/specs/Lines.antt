-- Lines: trips with the same stops in the same order, where one may board and alight alike, and none overtakes another.
-- (The RAPTOR paper has them as routes: Delling, Pajor, Werneck, ALENEX 2012.)
use Rattle.std.specs.Prelude.{◌≡◌, ℕ, ◌+◌, ◌<◌, ◌≤◌, List, length, slice_get, Some, All, IsTrue}
use Rattle.timetable.specs.declared.trips.Event.{Event}
use Rattle.timetable.specs.declared.trips.Trip.{Trip}
use Rattle.timetable.specs.Networks.{IsEvent}
use Rattle.timetable.specs.declared.views.Call.{Call}
use Rattle.timetable.specs.declared.views.CallTimes.{CallTimes}
use Rattle.timetable.specs.FlatLists.{IsIn}
use Rattle.timetable.specs.LineViews.{IsViewOf, rows_of_line}

-- the numbers of its trips, from the first to run to the last
abbrev pub Line : Type 0
Line = List ℕ

-- an event is at the same stop as one before it and no earlier, and one may board and alight alike
pub record IsNoEarlier (before after : Event) : Type 0 where
  pub stop : before.stop.0 ≡ after.stop.0
  pub board : before.board ≡ after.board
  pub alight : before.alight ≡ after.alight
  pub arrive : before.arrive ≤ after.arrive
  pub depart : before.depart ≤ after.depart

-- a trip makes the same events as one before it, none of them earlier
pub record Follows (before after : List Event) : Type 0 where
  pub same_length : length before ≡ length after
  pub events : (k : ℕ) (e f : Event) →
      slice_get before k ≡ Some e → slice_get after k ≡ Some f → IsNoEarlier e f

-- the trip with these events may run behind the last one of a line
abbrev pub Joins : List Trip → Line → List Event → Type 0
Joins trips line events = (r i : ℕ) (t : Trip) →
    length line ≡ r + 1 → slice_get line r ≡ Some i → slice_get trips i ≡ Some t → Follows t.events events

-- a line has trips, and each follows those before it
pub record IsLine (trips : List Trip) (line : Line) : Type 0 where
  pub some : 0 < length line
  pub in_range : All (λ trip. trip < length trips) line
  pub order : (r s i j : ℕ) (t u : Trip) → r ≤ s → slice_get line r ≡ Some i → slice_get line s ≡ Some j →
      slice_get trips i ≡ Some t → slice_get trips j ≡ Some u → Follows t.events u.events

-- a trip stands in one of the lines
abbrev pub IsInLine : List Line → ℕ → Type 0
IsInLine lines trip = (line : ℕ) × IsIn lines line trip

-- the lines of these trips: each trip stands in one, and there are no more lines than trips, nor trips in a line
pub record AreLines (trips : List Trip) (lines : List Line) : Type 0 where
  pub few : length lines ≤ length trips
  pub short : All (λ line. length line ≤ length trips) lines
  pub line : All (IsLine trips) lines
  pub all : (trip : ℕ) → trip < length trips → IsInLine lines trip

-- an event at a position of one of a line's trips
abbrev pub IsPosition : List Trip → List Line → ℕ → ℕ → Event → Type 0
IsPosition trips lines line k event = (trip : ℕ) × IsIn lines line trip × IsEvent trips trip k event

-- one of the first n events of a line allows to board at the stop
abbrev pub BoardsBefore : ℕ → ℕ → List Event → ℕ → ℕ × ℕ → Type 0
BoardsBefore n line events p x = (k : ℕ) × (e : Event) ×
    (k < n) × (slice_get events k ≡ Some e) × IsTrue e.board × (e.stop.0 ≡ p) × (x ≡ (line, k))

-- one of the first n lines can be boarded at the stop, by the events of its first trip
abbrev pub FirstBoards : List Trip → List Line → ℕ → ℕ → ℕ × ℕ → Type 0
FirstBoards trips lines n p x = (line : ℕ) × (row : Line) × (i : ℕ) × (t : Trip) ×
    (line < n) × (slice_get lines line ≡ Some row) × (slice_get row 0 ≡ Some i) × (slice_get trips i ≡ Some t) ×
    BoardsBefore (length t.events) line t.events p x

-- for each stop, the lines that can be boarded there, each with the position
pub record AreBoarded (stops : ℕ) (trips : List Trip) (lines : List Line) (boarded : List (List (ℕ × ℕ))) : Type 0 where
  pub size : length boarded ≡ stops
  pub complete : (line k : ℕ) (e : Event) →
      IsPosition trips lines line k e → IsTrue e.board → IsIn boarded e.stop.0 (line, k)
  pub sound : (p line k : ℕ) → IsIn boarded p (line, k) →
      (e : Event) × IsPosition trips lines line k e × (e.stop.0 ≡ p) × IsTrue e.board

-- the lines, for each stop where they can be boarded, and for each line its events laid out for a scan
pub record LineTable : Type 0 where
  pub lines : List Line
  pub boarded : List (List (ℕ × ℕ))
  pub calls : List (List Call)
  pub times : List (List CallTimes)

-- each line has its calls and its times
pub record AreViews (trips : List Trip) (table : LineTable) : Type 0 where
  pub calls_size : length table.calls ≡ length table.lines
  pub times_size : length table.times ≡ length table.lines
  pub view : (line : ℕ) (row : Line) (calls : List Call) (times : List CallTimes) →
      slice_get table.lines line ≡ Some row → slice_get table.calls line ≡ Some calls →
      slice_get table.times line ≡ Some times →
      IsViewOf (rows_of_line trips row) calls times

-- what is true of the lines of a network
pub record AreLinesOf (stops : ℕ) (trips : List Trip) (table : LineTable) : Type 0 where
  pub lines : AreLines trips table.lines
  pub boarded : AreBoarded stops trips table.lines table.boarded
  pub viewed : AreViews trips table
