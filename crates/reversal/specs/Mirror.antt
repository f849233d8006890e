-- The mirrored network: a network with time reversed at a horizon, a time that no event is later than.
--
-- A time t becomes the horizon minus t. Each trip runs backwards: its events are in reverse order, arrival and
-- departure are exchanged, and so are boarding and alighting. Each footpath leads the other way. Change times stay.
-- Letters: h horizon, n network, t trip, e event, a and b stops.
use Rattle.std.specs.Prelude.{◌≡◌, ℕ, suc, ◌-◌, ◌≤◌, List, [], ◌∷◌, ◌++◌, length, map, reverse, All, ◌↔◌, ◌==◌}
use Rattle.std.specs.Prelude.{if◌then◌else◌}
use Rattle.std.specs.List.{range_with_len}
use Rattle.timetable.specs.declared.trips.StopNo.{StopNo}
use Rattle.timetable.specs.declared.trips.Event.{Event}
use Rattle.timetable.specs.declared.trips.Trip.{Trip}
use Rattle.timetable.specs.Footpaths.{FeetData, FootLists, IsFoot}
use Rattle.timetable.specs.Networks.{Net}

-- no arrival or departure is later than the horizon
abbrev pub IsHorizon : ℕ → List Trip → Type 0
IsHorizon h trips = All (λ t. All (λ e. (e.arrive ≤ h) × (e.depart ≤ h)) t.events) trips

-- the event, where a departure becomes an arrival, and an arrival a departure
abbrev pub mirrored_event : ℕ → Event → Event
mirrored_event h e =
    record { stop = e.stop; arrive = h - e.depart; depart = h - e.arrive; board = e.alight; alight = e.board }

-- the trip, from its last event to its first
abbrev pub mirrored_trip : ℕ → Trip → Trip
mirrored_trip h t = record { route = t.route; name = t.name; events = reverse (map (mirrored_event h) t.events) }

-- the same footpaths, each the other way, and the same change times
pub record AreMirrored (feet mirrored : FeetData) : Type 0 where
  pub walks : (a b seconds : ℕ) → IsFoot feet.walks a b seconds ↔ IsFoot mirrored.walks b a seconds
  pub changes : mirrored.changes ≡ feet.changes

-- the network with time reversed, whatever the order of its footpaths
pub record IsMirrored (h : ℕ) (n mirrored : Net) : Type 0 where
  pub stops : mirrored.stops ≡ n.stops
  pub trips : mirrored.trips ≡ map (mirrored_trip h) n.trips
  pub feet : AreMirrored n.feet mirrored.feet

-- the footpaths that lead from stop a to stop b, the other way; the list has all footpaths from a
abbrev pub reversed_between : ℕ → ℕ → List (StopNo × ℕ) → List (StopNo × ℕ)
reversed_between a b [] = []
reversed_between a b (x ∷ row) =
    if x.0.0 == b then (record { 0 = a }, x.1) ∷ reversed_between a b row else reversed_between a b row

-- all footpaths that lead to stop b, the other way; the first list has those from stop a, and those of the stops after
-- it follow
abbrev pub reversed_to : ℕ → ℕ → FootLists → List (StopNo × ℕ)
reversed_to b a [] = []
reversed_to b a (row ∷ walks) = reversed_between a b row ++ reversed_to b (suc a) walks

-- the footpaths the other way, those from each stop in ascending order of their targets; and the same change times
abbrev pub mirrored_feet : FeetData → FeetData
mirrored_feet feet =
    record {
      walks = map (λ b. reversed_to b 0 feet.walks) (range_with_len 0 (length feet.walks));
      changes = feet.changes;
    }

-- the mirrored network of an accepted network
abbrev pub mirrored : ℕ → Net → Net
mirrored h n =
    record { stops = n.stops; trips = map (mirrored_trip h) n.trips; feet = mirrored_feet n.feet }
