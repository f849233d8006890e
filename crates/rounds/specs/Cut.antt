-- A network with its times cut, as labels tell them.
use Rattle.std.specs.Prelude.{ℕ, List, map}
use Rattle.timetable.specs.declared.trips.Event.{Event}
use Rattle.timetable.specs.declared.trips.Trip.{Trip}
use Rattle.timetable.specs.Networks.{Net}
use Rattle.trip_lanes.specs.Cut.{cut}

-- the event, at its cut times
abbrev pub cut_event : ℕ → ℕ → Event → Event
cut_event base cap e =
    record {
      stop = e.stop;
      arrive = cut base cap e.arrive;
      depart = cut base cap e.depart;
      board = e.board;
      alight = e.alight;
    }

-- the trip, each of its events at its cut times
abbrev pub cut_trip : ℕ → ℕ → Trip → Trip
cut_trip base cap t = record { route = t.route; name = t.name; events = map (cut_event base cap) t.events }

abbrev pub cut_trips : ℕ → ℕ → List Trip → List Trip
cut_trips base cap trips = map (cut_trip base cap) trips

-- the network, each of its trips at its cut times
abbrev pub cut_net : ℕ → ℕ → Net → Net
cut_net base cap n = record { stops = n.stops; trips = cut_trips base cap n.trips; feet = n.feet }
