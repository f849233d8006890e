-- The events of a run, one by one.
use Rattle.std.specs.Prelude.{◌≤ℤ◌, ℕ, ℤ, Bool, List, Option, Some, None, neg_ℤ, pos, if◌then◌else◌}
use Rattle.timetable.specs.declared.trips.Event.{Event}
use Rattle.service_days.specs.Instances.{arriving_at_departure}
use Rattle.scenarios.specs.Networks.{is_event_on_axis, is_on_axis, moved_event, moved_time}

-- seconds that can be added to a time in 64 bits
abbrev pub IsSum : ℤ → Type 0
IsSum seconds = (neg_ℤ (pos 1000000000000) ≤ℤ seconds) × (seconds ≤ℤ pos 1000000000000)

-- events, or those of a departure of a frequency row
abbrev pub arriving : Bool → List Event → List Event
arriving departs events = if departs then arriving_at_departure events else events

-- an event, or the first one of such a departure
abbrev pub departing_event : Bool → Event → Event
departing_event departs e = if departs then record e { arrive = e.depart } else e

-- a moved time, where it is on the axis
abbrev pub time_if_on_axis : ℤ → ℕ → Option ℕ
time_if_on_axis seconds time = if is_on_axis seconds time then Some (moved_time seconds time) else None

-- a moved event, where it is on the axis
abbrev pub moved_if_on_axis : Bool → ℤ → Event → Option Event
moved_if_on_axis departs seconds e =
    if is_event_on_axis seconds (departing_event departs e) then Some (moved_event seconds (departing_event departs e))
    else None
