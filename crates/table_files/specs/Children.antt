-- The stops of each station, and the stops that a place stands for.
-- GTFS Schedule reference, stops.txt: the parent_station of a stop is the station that it is part of.
use Rattle.std.specs.Prelude.{◌<◌, ℕ, List, [], ◌∷◌, All, AllPairs, filter, map, position, slice_get, unwrap_or}
use Rattle.std.specs.List.{enumerate_from}
use Rattle.std.specs.Str.{bytes_eq}
use Rattle.timetable.specs.declared.trips.StopNo.{StopNo}
use Rattle.table_records.specs.Fields.{is_number}
use Rattle.table_files.specs.declared.place.Place.{Place}
use Rattle.table_files.specs.declared.place.Place.TheVariants.{Stop, Station, Other}

-- the stops, by their parents in the order of their numbers, whose parent is the station with this number
abbrev pub children_at : List (List ℕ) → List (List ℕ) → ℕ → List StopNo
children_at stations parents station =
    map (λ x. record { 0 = x.0 }) (filter (λ x. is_number station (position (bytes_eq x.1) stations))
    (enumerate_from 0 parents))

-- the stops of each station
abbrev pub children_of : List (List ℕ) → List (List ℕ) → List (List StopNo)
children_of stations parents = map (λ x. children_at stations parents x.0) (enumerate_from 0 stations)

-- the stops that a place stands for: a stop for itself, a station for its stops, another place for none
abbrev pub stops_at : Place → List (List StopNo) → List StopNo
stops_at (Stop stop) children = stop ∷ []
stops_at (Station number) children = unwrap_or (slice_get children number) []
stops_at Other children = []

-- the place is one of so many stops and stations
abbrev pub IsPlace : ℕ → ℕ → Place → Type 0
IsPlace stops stations (Stop stop) = stop.0 < stops
IsPlace stops stations (Station number) = number < stations
IsPlace stops stations Other = Unit {0}

-- each stop's number is below the next one's
abbrev pub Ascend : List StopNo → Type 0
Ascend stops = AllPairs (λ a b. a.0 < b.0) stops

-- each child is one of so many stops, and no station has a child twice
pub record AreChildren (stops : ℕ) (children : List (List StopNo)) : Type 0 where
  pub in_range : All (All (λ stop. stop.0 < stops)) children
  pub ascending : All Ascend children
