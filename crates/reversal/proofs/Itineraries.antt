-- An itinerary: rides, with at most one walk before, between and after them.
--
-- A journey says when a traveller is where. An itinerary has only inequalities: each link from one ride to the next
-- takes at most the time between them. Its mirror image is therefore an itinerary, too.
use Rattle.std.specs.Prelude.{◌≡◌, ℕ, zero, suc, ◌+◌, ◌-◌, ◌≤◌}
use Rattle.std.specs.Prelude.{◌⊎◌, Bool, true, ◌&&◌, cond, slice_get, slice_index, Some}
use Rattle.timetable.specs.declared.trips.Event.{Event}
use Rattle.timetable.specs.declared.trips.Trip.{Trip}
use Rattle.timetable.specs.Footpaths.{IsFoot}
use Rattle.timetable.specs.Networks.{Net}
use Rattle.timetable.specs.Journeys.{IsRide, Whereabouts}

-- the traveller waits at the stop from a to b; between two rides, the change time must pass
pub record LinkByWaiting (n : Net) (change : Bool) (a b : Whereabouts) : Type 0 where
  pub same : a.stop ≡ b.stop
  pub in_time : a.time + cond change (slice_index n.feet.changes a.stop) 0 ≤ b.time

-- the traveller walks from a to b, and waits
pub record LinkOnFoot (n : Net) (a b : Whereabouts) : Type 0 where
  pub seconds : ℕ
  pub foot : IsFoot n.feet.walks a.stop b.stop seconds
  pub in_time : a.time + seconds ≤ b.time

-- the traveller waits or walks
abbrev pub IsLink : Net → Bool → Whereabouts → Whereabouts → Type 0
IsLink n change a b = LinkByWaiting n change a b ⊎ LinkOnFoot n a b

-- a ride of the network, from its departure `on` to its arrival `off`
pub record RideBetween (n : Net) (on off : Whereabouts) : Type 0 where
  pub trip : ℕ
  pub j : ℕ
  pub i : ℕ
  pub t : Trip
  pub first : Event
  pub last : Event
  pub runs : slice_get n.trips trip ≡ Some t
  pub ride : IsRide t j i first last
  pub leaves : on ≡ record { stop = first.stop.0; time = first.depart }
  pub arrives : off ≡ record { stop = last.stop.0; time = last.arrive }

-- k rides lead from a to b. The flags say whether another ride ends at a, and whether another one begins at b: a change
-- time counts only between two rides
abbrev pub Itinerary : Net → Bool → Whereabouts → ℕ → Bool → Whereabouts → Type 0
Itinerary n before a zero after b = IsLink n (before && after) a b
Itinerary n before a (suc k) after b =
    (on : Whereabouts) × (off : Whereabouts) × Itinerary n before a k true on × RideBetween n on off
    × IsLink n after off b

-- the same place at the mirrored time
abbrev pub mirrored_place : ℕ → Whereabouts → Whereabouts
mirrored_place h a = record { stop = a.stop; time = h - a.time }
