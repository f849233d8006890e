-- The search for the row of a destination: its deadlines over the mirrored network, batch by batch.
-- Letters: h horizon, n network, w window, m its departure, p destination, o origin, x and y its durations,
-- j index of a deadline, i index of a departure of the mirrored network, s search, q question.
use Rattle.std.specs.Prelude.{◌≡◌, ◌↔◌, ℕ, ◌-◌, ◌<◌, ◌≤◌, ◌++◌, List, All, Contains, length, slice_get}
use Rattle.std.specs.Prelude.{slice_index, Some}
use Rattle.std.specs.List.Sorted.{IsStrictlyIncreasing}
use Rattle.timetable.specs.declared.limits.TheConstants.{END_OF_AXIS}
use Rattle.timetable.specs.Journeys.{IsDuration}
use Rattle.timetable.specs.Least.{IsLeastOrNever}
use Rattle.timetable.specs.Networks.{Net}
use Rattle.rounds.specs.declared.window.TheConstants.{MOST_RIDES}
use Rattle.rounds.specs.declared.window.Window.{Window}
use Rattle.rounds.specs.LatestFirst.{DepartureSearch, IsLaneDuration}
use Rattle.rounds.specs.Window.{Fits, departure}
use Rattle.reversal.specs.Deadlines.{IsDeadline}
use Rattle.reversal.specs.Mirror.{IsHorizon, mirrored}
use Rattle.to_here.specs.declared.row.OriginDurations.{OriginDurations}
use Rattle.to_here.specs.declared.search.NetworkPair.{NetworkPair}
use Rattle.to_here.specs.declared.search.Question.{Question}
use Rattle.to_here.specs.Front.{IsFront}
use Rattle.to_here.specs.Row.{IsOriginOf}
use Rattle.to_here.specs.Searched.{AreEnough, AreSearchedFor}

-- a network and its mirrored network, for a horizon on the axis
pub record IsNetworkPair (networks : NetworkPair) : Type 0 where
  pub mirror : networks.mirrored.now ≡ mirrored networks.horizon networks.network.now
  pub horizon : IsHorizon networks.horizon networks.network.now.trips
  pub axis : networks.horizon < END_OF_AXIS

-- no departure of the window and no deadline of p is later than the horizon, so each has its mirror image
pub record FitsHorizon (h : ℕ) (n : Net) (w : Window) (p : ℕ) : Type 0 where
  pub departures : (m : ℕ) → m < w.minutes → departure w m ≤ h
  pub deadlines : (time : ℕ) → IsDeadline n p time → time ≤ h

-- a question that can be searched
pub record IsValidQuestion (q : Question) : Type 0 where
  pub networks : IsNetworkPair q.networks
  pub destination : q.destination.0 < q.networks.network.now.stops
  pub window : Fits q.window
  pub rides : q.rides ≤ MOST_RIDES
  pub horizon : FitsHorizon q.networks.horizon q.networks.network.now q.window q.destination.0

-- all deadlines of p from the first start on, in ascending order
pub record AreDeadlinesFrom (n : Net) (p first : ℕ) (times : List ℕ) : Type 0 where
  pub exact : (time : ℕ) → Contains times time ↔ (IsDeadline n p time × (first ≤ time))
  pub ascending : IsStrictlyIncreasing times

-- the departures over the mirrored network: the latest deadline is the earliest of them
pub record AreMirroredDepartures (h : ℕ) (times departures : List ℕ) : Type 0 where
  pub count : length departures ≡ length times
  pub each : (i : ℕ) → i < length times →
      slice_index departures i ≡ h - slice_index times (length times - 1 - i)

-- the label of a deadline for an origin: the least duration over the mirrored network, from the destination
abbrev pub IsLabelOf : Question → ℕ → ℕ → ℕ → Type 0
IsLabelOf q time o label =
    IsLeastOrNever (IsDuration q.networks.mirrored.now q.destination.0 (q.networks.horizon - time) q.rides o) label

-- the search that answers the question
pub record IsSearchOf (q : Question) (times : List ℕ) (s : DepartureSearch) : Type 0 where
  pub net : s.net ≡ q.networks.mirrored.now
  pub origin : s.origin ≡ q.destination.0
  pub rides : s.rides ≡ q.rides
  pub departures : AreMirroredDepartures q.networks.horizon times s.times

-- an origin has taken the labels of these deadlines from the last batch of a search, whose lanes are in reverse order
pub record HasTaken (w : Window) (times : List ℕ) (s : DepartureSearch) (o : ℕ) (y x : OriginDurations) : Type 0 where
  pub labels : List ℕ
  pub each : (j : ℕ) → j < length times → IsLaneDuration s o (length times - 1 - j) (slice_index labels j)
  pub front : (before labels_before : List ℕ) → IsFront w before labels_before y.front y.durations.items →
      IsFront w (before ++ times) (labels_before ++ labels) x.front x.durations.items

-- and so has every origin
abbrev pub HaveTaken : Window → List ℕ → DepartureSearch → List OriginDurations → List OriginDurations → Type 0
HaveTaken w times s old new = (o : ℕ) (x : OriginDurations) → slice_get new o ≡ Some x →
    (y : OriginDurations) × (slice_get old o ≡ Some y) × HasTaken w times s o y x

-- the durations from an origin once these deadlines were searched
pub record IsOriginSearched (q : Question) (times : List ℕ) (o : ℕ) (x : OriginDurations) : Type 0 where
  pub labels : List ℕ
  pub front : IsFront q.window times labels x.front x.durations.items
  pub each : (j : ℕ) → j < length times → IsLabelOf q (slice_index times j) o (slice_index labels j)

-- and those from every origin
pub record AreOriginsSearched (q : Question) (times : List ℕ) (row : List OriginDurations) : Type 0 where
  pub count : length row ≡ q.networks.network.now.stops
  pub origins : All (IsOriginOf q.window) row
  pub each : (o : ℕ) (x : OriginDurations) → slice_get row o ≡ Some x → IsOriginSearched q times o x

-- enough deadlines were searched for an origin
pub record IsOriginDone (q : Question) (o : ℕ) (x : OriginDurations) : Type 0 where
  pub through : ℕ
  pub times : List ℕ
  pub labels : List ℕ
  pub searched : AreSearchedFor q.networks.horizon q.networks.network.now q.networks.mirrored.now q.window through
      q.destination.0 q.rides o times labels
  pub enough : AreEnough q.networks.horizon q.networks.network.now q.networks.mirrored.now q.window through
      q.destination.0 q.rides o times labels
  pub front : IsFront q.window times labels x.front x.durations.items

-- and for every origin
pub record AreOriginsDone (q : Question) (row : List OriginDurations) : Type 0 where
  pub count : length row ≡ q.networks.network.now.stops
  pub each : (o : ℕ) (x : OriginDurations) → slice_get row o ≡ Some x → IsOriginDone q o x
