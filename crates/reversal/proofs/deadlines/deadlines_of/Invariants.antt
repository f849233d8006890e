use Rattle.std.proofs.Common.{◌≡◌, ◌<◌, ◌≤◌, ◌↔◌, ℕ, Contains, slice_get, Some}
use Rattle.timetable.specs.declared.trips.Trip.{Trip}
use Rattle.reversal.specs.Deadlines.{IsTripDeadline}
use Rattle.reversal.proofs.deadlines.deadlines_of.Given as goal

-- the deadlines of the trips that were visited
abbrev pub invariant-loop-trip : goal.invariant-loop-trip
invariant-loop-trip l =
    (time : ℕ) → Contains l.times.items time ↔ ((k : ℕ) × (t : Trip) × (k < l.trip-index)
    × (slice_get l.network.trips k ≡ Some t) × IsTripDeadline l.network.feet.walks t l.destination.0 time
    × (l.first ≤ time))
