-- A network whose stops are numbered anew: each stop has one new number, no two have the same, nothing else changes.
use Rattle.std.specs.Prelude.{◌≡◌, ℕ, ◌<◌, List, [], length, map, slice_get, slice_index, slice_index_or, Some, ◌↔◌}
use Rattle.std.specs.List.Sorted.{IsNonDecreasingBy, IsPermutation}
use Rattle.timetable.specs.declared.trips.Event.{Event}
use Rattle.timetable.specs.declared.trips.StopNo.{StopNo}
use Rattle.timetable.specs.declared.trips.Trip.{Trip}
use Rattle.timetable.specs.Footpaths.{FeetData, FootLists, IsFoot}
use Rattle.timetable.specs.Networks.{Net, IsNet}
use Rattle.timetable.specs.Numbering.{number_in}
use Rattle.timetable.specs.Least.{IsLeastOrNever}
use Rattle.timetable.specs.Journeys.{IsDuration}

-- no two of so many stops have the same new number
abbrev pub IsOneToOne : ℕ → (ℕ → ℕ) → Type 0
IsOneToOne stops number = (p q : ℕ) → p < stops → q < stops → number p ≡ number q → p ≡ q

-- the event, at its stop's new number
abbrev pub renumbered_event : (ℕ → ℕ) → Event → Event
renumbered_event number e =
    record {
      stop = record { 0 = number e.stop.0 };
      arrive = e.arrive;
      depart = e.depart;
      board = e.board;
      alight = e.alight;
    }

-- the trip, each of its events at its stop's new number
abbrev pub renumbered_trip : (ℕ → ℕ) → Trip → Trip
renumbered_trip number t =
    record { route = t.route; name = t.name; events = map (renumbered_event number) t.events }

-- the same footpaths and change times, of stops by their new numbers
pub record AreRenumbered (number : ℕ → ℕ) (stops : ℕ) (feet renumbered : FeetData) : Type 0 where
  pub forth : (a b seconds : ℕ) →
      IsFoot feet.walks a b seconds → IsFoot renumbered.walks (number a) (number b) seconds
  pub back : (x y seconds : ℕ) → IsFoot renumbered.walks x y seconds →
      (a : ℕ) × (b : ℕ) × IsFoot feet.walks a b seconds × (x ≡ number a) × (y ≡ number b)
  pub changes : (p : ℕ) → p < stops → slice_index renumbered.changes (number p) ≡ slice_index feet.changes p

-- the same network, with its stops by their new numbers
pub record IsRenumbered (number : ℕ → ℕ) (n renumbered : Net) : Type 0 where
  pub one_to_one : IsOneToOne n.stops number
  pub trips : renumbered.trips ≡ map (renumbered_trip number) n.trips
  pub feet : AreRenumbered number n.stops n.feet renumbered.feet

-- a law: a journey takes as long between the same stops by their new numbers
abbrev pub RenumberedStopsKeepDurations : Type 0
RenumberedStopsKeepDurations =
    (number : ℕ → ℕ) (n renumbered : Net) (origin depart k p d : ℕ) → IsNet n → IsRenumbered number n renumbered →
    origin < n.stops → p < n.stops →
    IsDuration n origin depart k p d ↔ IsDuration renumbered (number origin) depart k (number p) d

-- a law: so least durations are the same
abbrev pub RenumberedStopsKeepLabels : Type 0
RenumberedStopsKeepLabels =
    (number : ℕ → ℕ) (n renumbered : Net) (origin depart k p label : ℕ) → IsNet n →
    IsRenumbered number n renumbered → origin < n.stops → p < n.stops →
    IsLeastOrNever (IsDuration n origin depart k p) label
    ↔ IsLeastOrNever (IsDuration renumbered (number origin) depart k (number p)) label

-- a footpath that leads to a stop by its number
abbrev pub renumbered_walk : (ℕ → ℕ) → StopNo × ℕ → StopNo × ℕ
renumbered_walk number x = (record { 0 = number x.0.0 }, x.1)

-- the footpaths from a stop, to stops by their numbers, in the numbers' order
pub record IsRenumberedRow (number : ℕ → ℕ) (row renumbered : List (StopNo × ℕ)) : Type 0 where
  pub walks : IsPermutation (map (renumbered_walk number) row) renumbered
  pub sorted : IsNonDecreasingBy (λ x. x.0.0) renumbered

-- by each of the first numbers, those from its stop
pub record AreRenumberedRows (number : ℕ → ℕ) (order : List ℕ) (rows : FootLists) (first : ℕ)
    (renumbered : FootLists) : Type 0 where
  pub count : length renumbered ≡ first
  pub each : (n : ℕ) (row : List (StopNo × ℕ)) → slice_get renumbered n ≡ Some row →
      IsRenumberedRow number (slice_index_or rows (slice_index order n) []) row

-- the network, with its stops by their numbers and these footpaths
abbrev pub renumbered_net : List ℕ → Net → FeetData → Net
renumbered_net numbers n feet =
    record { stops = n.stops; trips = map (renumbered_trip (number_in numbers)) n.trips; feet = feet }
