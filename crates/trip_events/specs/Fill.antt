-- The times of events that have none: they go evenly from the departure of the nearest timed event before to the
-- arrival of the nearest one after.
-- An event that ends the j-th of the n gaps between the two arrives and departs j n-ths of the way, rounded down to a
-- second.
-- (GTFS Schedule reference, stop_times.txt: times between timepoints are interpolated; evenly by events is this
-- project's rule.)
use Rattle.std.specs.Prelude.{◌+◌, ◌-◌, ◌*◌, ◌/◌, ℕ, List, [], ◌∷◌, Option, Some, None, option_map, unwrap_or}
use Rattle.timetable.specs.declared.trips.Event.{Event}
use Rattle.trip_events.specs.declared.fill.Neighbour.{Neighbour}
use Rattle.trip_events.specs.declared.trip_times.StopTime.{StopTime}
use Rattle.trip_events.specs.declared.trip_times.VisitTimes.{VisitTimes}

-- the nearest timed event, one event further on: that event where it is timed
abbrev pub nearer : Option VisitTimes → Option Neighbour → Option Neighbour
nearer (Some t) beyond = Some (record { times = t; untimed = 0 })
nearer None beyond = option_map (λ n. record { times = n.times; untimed = n.untimed + 1 }) beyond

-- the nearest timed event among some, the nearest of them first
abbrev pub nearest : List StopTime → Option Neighbour
nearest [] = None
nearest (s ∷ rest) = nearer s.times (nearest rest)

-- the time at the end of the j-th of the n gaps between a departure and an arrival
abbrev pub time_at_gap : ℕ → ℕ → ℕ → ℕ → ℕ
time_at_gap depart arrive j n = depart + (arrive - depart) * j / n

-- the times between the nearest timed events, which lie as many gaps apart as untimed events stand on both sides of an
-- event, and two more
abbrev pub between : Option Neighbour → Option Neighbour → VisitTimes
between None after = record { arrive = 0; depart = 0 }
between (Some b) None = record { arrive = 0; depart = 0 }
between (Some b) (Some a) = record {
  arrive = time_at_gap b.times.depart a.times.arrive (b.untimed + 1) (b.untimed + a.untimed + 2);
  depart = time_at_gap b.times.depart a.times.arrive (b.untimed + 1) (b.untimed + a.untimed + 2);
}

-- the event of a record that has these times
abbrev pub event_at : StopTime → VisitTimes → Event
event_at s t = record {
  stop = record { 0 = unwrap_or s.stop 0 };
  arrive = t.arrive;
  depart = t.depart;
  board = s.board;
  alight = s.alight;
}

-- the events of records that follow others, the nearest of which comes first: each has its own times, or those between
abbrev pub events_after : List StopTime → List StopTime → List Event
events_after before [] = []
events_after before (s ∷ rest) = event_at s (unwrap_or s.times (between (nearest before) (nearest rest))) ∷ events_after
    (s ∷ before) rest

-- the events of a trip's records
abbrev pub filled : List StopTime → List Event
filled trip_times = events_after [] trip_times
