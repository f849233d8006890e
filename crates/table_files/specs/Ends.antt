-- The ends of a footpath, and the pairs of stops that two ends give: a station stands for all its stops.
-- (After the GTFS Schedule reference, transfers.txt: from_stop_id and to_stop_id may name stations.)
use Rattle.std.specs.Prelude.{◌==◌, ℕ, Bool, List, filter, map, not}
use Rattle.std.specs.List.{flat_map, list_any}
use Rattle.timetable.specs.declared.trips.StopNo.{StopNo}
use Rattle.table_files.specs.declared.ends.Ends.{Ends}
use Rattle.table_files.specs.declared.ends.Ends.TheVariants.{Alone, Children}

-- the stops of an end: a stop alone, or a station's stops
abbrev pub stops_of : Ends → List StopNo
stops_of (Alone stop) = stop
stops_of (Children stops) = stops.now

-- two different stops
abbrev pub differ : StopNo → StopNo → Bool
differ a b = not (b.0 == a.0)

-- the pairs of different stops of two ends, from-stops in the outer order, each with the seconds of the walk
abbrev pub pairs_between : List StopNo → List StopNo → ℕ → List (StopNo × StopNo × ℕ)
pairs_between from to seconds = flat_map (λ a. map (λ b. (a, b, seconds)) (filter (differ a) to)) from

-- some stop of one end differs from some stop of the other
abbrev pub have_pair : List StopNo → List StopNo → Bool
have_pair from to = list_any (λ a. list_any (differ a) to) from
