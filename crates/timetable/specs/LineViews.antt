-- The events of a line's trips, laid out for a scan: what travellers may do at each position, and the times of its
-- trips, one trip after another. (The RAPTOR paper lays out its routes so: Delling, Pajor, Werneck, ALENEX 2012.)
use Rattle.std.specs.Prelude.{◌≡◌, ℕ, ◌+◌, ◌*◌, ◌<◌, List, [], map, length, slice_get, slice_index, slice_index_or}
use Rattle.std.specs.Prelude.{Some}
use Rattle.timetable.specs.declared.trips.Event.{Event}
use Rattle.timetable.specs.declared.trips.Trip.{Trip}
use Rattle.timetable.specs.declared.views.Call.{Call}
use Rattle.timetable.specs.declared.views.CallTimes.{CallTimes}

-- the events of a trip of the list
abbrev pub events_of : List Trip → ℕ → List Event
events_of trips i = slice_index_or (map (λ t. t.events) trips) i []

-- the events of the trips of a line, a row for each trip, in the order of the line
abbrev pub rows_of_line : List Trip → List ℕ → List (List Event)
rows_of_line trips line = map (events_of trips) line

-- the trip that comes r-th in the line, counted from 0, makes this event at its position j
pub record IsAt (rows : List (List Event)) (r j : ℕ) (e : Event) : Type 0 where
  pub row : List Event
  pub trip : slice_get rows r ≡ Some row
  pub event : slice_get row j ≡ Some e

-- the arrivals among some times, and the departures
abbrev pub arrivals_in : List CallTimes → List ℕ
arrivals_in times = map (λ t. t.arrive) times

abbrev pub departures_in : List CallTimes → List ℕ
departures_in times = map (λ t. t.depart) times

-- calls and times show these trips: the stop and the flags of each position, and the times of one trip after another,
-- each as it is told
pub record IsToldView (told : ℕ → ℕ) (rows : List (List Event)) (calls : List Call) (times : List CallTimes) :
    Type 0 where
  pub positions : (r : ℕ) (row : List Event) → slice_get rows r ≡ Some row → length row ≡ length calls
  pub size : length times ≡ length rows * length calls
  pub stop : (r j : ℕ) (e : Event) (c : Call) → IsAt rows r j e → slice_get calls j ≡ Some c → c.stop.0 ≡ e.stop.0
  pub board : (r j : ℕ) (e : Event) (c : Call) → IsAt rows r j e → slice_get calls j ≡ Some c → c.board ≡ e.board
  pub alight : (r j : ℕ) (e : Event) (c : Call) → IsAt rows r j e → slice_get calls j ≡ Some c → c.alight ≡ e.alight
  pub arrival : (r j : ℕ) (e : Event) → IsAt rows r j e →
      told (slice_index (arrivals_in times) (r * length calls + j)) ≡ e.arrive
  pub departure : (r j : ℕ) (e : Event) → IsAt rows r j e →
      told (slice_index (departures_in times) (r * length calls + j)) ≡ e.depart

-- the times as they stand
abbrev pub IsViewOf : List (List Event) → List Call → List CallTimes → Type 0
IsViewOf rows calls times = IsToldView (λ time. time) rows calls times

-- what an event says of its position
abbrev pub call_of : Event → Call
call_of e = record { stop = e.stop; board = e.board; alight = e.alight }

-- when it takes place
abbrev pub times_at : Event → CallTimes
times_at e = record { arrive = e.arrive; depart = e.depart }

-- when the r-th row arrives at position j, and when it departs there
abbrev pub arrives : List (List Event) → ℕ → ℕ → ℕ
arrives rows r j = slice_index (map (λ e. e.arrive) (slice_index_or rows r [])) j

abbrev pub departs : List (List Event) → ℕ → ℕ → ℕ
departs rows r j = slice_index (map (λ e. e.depart) (slice_index_or rows r [])) j

-- m rows of n numbers, one after another
pub record IsGrid (m n : ℕ) (F : ℕ → ℕ → ℕ) (numbers : List ℕ) : Type 0 where
  pub size : length numbers ≡ m * n
  pub at : (a b : ℕ) → a < m → b < n → slice_index numbers (a * n + b) ≡ F a b

-- for each of the first n lines something that fits it
pub record AreFor {X : Type 0} (Fits : List ℕ → X →
    Type 0) (n : ℕ) (lines : List (List ℕ)) (made : List X) : Type 0 where
  pub size : length made ≡ n
  pub each : (k : ℕ) (line : List ℕ) (x : X) → slice_get lines k ≡ Some line → slice_get made k ≡ Some x → Fits line x

-- m rows of n times, of which these are the arrivals and the departures
pub record AreTimes (m n : ℕ) (rows : List (List Event)) (times : List CallTimes) : Type 0 where
  pub arrivals : IsGrid m n (arrives rows) (arrivals_in times)
  pub departures : IsGrid m n (departs rows) (departures_in times)

-- the positions of a line, and its times trip by trip, by the events of its first trip
abbrev pub IsCalls : List Trip → List ℕ → List Call → Type 0
IsCalls trips line calls = calls ≡ map call_of (events_of trips (slice_index line 0))

abbrev pub IsTimes : List Trip → List ℕ → List CallTimes → Type 0
IsTimes trips line times = AreTimes (length line) (length (events_of trips (slice_index line 0)))
    (rows_of_line trips line) times
