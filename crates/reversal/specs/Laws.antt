-- Laws of mirrored networks, their journeys, and the durations that follow from them.
-- Letters: h horizon, n network, k rides at most, p destination, j and l indexes of searched deadlines.
use Rattle.std.specs.Prelude.{◌≡◌, ℕ, ◌-◌, ◌<◌, ◌≤◌, ◌↔◌, ◌⊎◌, ◌+◌, List, length, slice_index, min, All}
use Rattle.timetable.specs.declared.least.TheConstants.{NEVER}
use Rattle.timetable.specs.declared.limits.TheConstants.{END_OF_AXIS}
use Rattle.timetable.specs.Networks.{Net, IsNet}
use Rattle.timetable.specs.Least.{IsLeastOrNever}
use Rattle.timetable.specs.Journeys.{IsDuration, IsReached}
use Rattle.reversal.specs.Deadlines.{IsWalkAlone}
use Rattle.reversal.specs.Mirror.{IsHorizon, IsMirrored, mirrored}
use Rattle.reversal.specs.ReadOut.{AreSearched, IsEnough, IsLeastUpTo, IsServedBy, until_served}

-- some journey of at most k rides from the origin, begun at the start, ends at stop p by the deadline
pub record IsReachedBy (n : Net) (origin start k p deadline : ℕ) : Type 0 where
  pub time : ℕ
  pub reached : IsReached n (record { stop = origin; time = start }) k p time
  pub in_time : time ≤ deadline

-- a law: a traveller who starts at the origin reaches the destination by a deadline if and only if, in the mirrored
-- network, a traveller who starts at the destination at the mirrored deadline reaches the origin by the mirrored start
abbrev pub JourneysReverse : Type 0
JourneysReverse =
    (h : ℕ) (n mirrored : Net) (origin start k p deadline : ℕ) → IsHorizon h n.trips → IsMirrored h n mirrored →
    start ≤ h → deadline ≤ h →
    IsReachedBy n origin start k p deadline ↔ IsReachedBy mirrored p (h - deadline) k origin (h - start)

-- a law: the mirrored network of an accepted network is a network that is accepted
abbrev pub MirroredNetworksAreNetworks : Type 0
MirroredNetworksAreNetworks =
    (h : ℕ) (n : Net) → IsNet n → h < END_OF_AXIS → IsMirrored h n (mirrored h n) × IsNet (mirrored h n)

-- a law: there is one mirrored network
abbrev pub MirroredNetworksAreUnique : Type 0
MirroredNetworksAreUnique = (h : ℕ) (n m : Net) → IsNet n → IsNet m → IsMirrored h n m → m ≡ mirrored h n

-- a law: mirrored twice, it is the original network
abbrev pub MirroredTwiceIsOriginal : Type 0
MirroredTwiceIsOriginal = (h : ℕ) (n : Net) → IsNet n → IsHorizon h n.trips → mirrored h (mirrored h n) ≡ n

-- a law: a time that no departure is later than is a horizon, and so is the last second of the axis
abbrev pub LastDeparturesAreHorizons : Type 0
LastDeparturesAreHorizons =
    (h : ℕ) (n : Net) → IsNet n →
    All (λ t. All (λ e. e.depart ≤ h) t.events) n.trips ⊎ (END_OF_AXIS ≤ h + 1) → IsHorizon h n.trips

-- a law: once enough deadlines have been searched, the least duration to the destination is the lesser of a walk alone
-- and the seconds until the first deadline that serves
abbrev pub LeastDurationsAreReadOut : Type 0
LeastDurationsAreReadOut =
    (h : ℕ) (n mirrored : Net) (times labels : List ℕ) (first through origin start k p walk : ℕ) →
    IsNet n → h < END_OF_AXIS → IsHorizon h n.trips → IsMirrored h n mirrored → first ≤ start → start ≤ h →
    AreSearched h n mirrored first through p k origin times labels →
    IsEnough h n mirrored first through p k origin start times labels →
    IsLeastOrNever (IsWalkAlone n.feet.walks origin p) walk →
    IsLeastOrNever (IsDuration n origin start k p) (min walk (until_served times labels start))

-- a law: a start that a deadline serves is served by every later deadline, too
abbrev pub LaterDeadlinesServe : Type 0
LaterDeadlinesServe =
    (h : ℕ) (n mirrored : Net) (times labels : List ℕ) (first through origin start k p j l : ℕ) → IsNet n →
    h < END_OF_AXIS → IsHorizon h n.trips → IsMirrored h n mirrored → first ≤ start → start ≤ h →
    AreSearched h n mirrored first through p k origin times labels → l < length times →
    slice_index times j ≤ slice_index times l → IsServedBy times labels j start → IsServedBy times labels l start

-- a law: the label of a search is right up to every limit below NEVER
abbrev pub LabelsAreLeastUpTo : Type 0
LabelsAreLeastUpTo =
    (n : Net) (origin depart k p most label : ℕ) → most < NEVER →
    IsLeastOrNever (IsDuration n origin depart k p) label →
    IsLeastUpTo (IsDuration n origin depart k p) most label
