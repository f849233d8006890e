-- What the rows of a scenario do to the trips of a feed: they remove trips, by trip or by route, and shift their times.
-- A trip's shift is the sum of all rows that name it.
use Rattle.std.specs.Prelude.{◌==◌, ◌&&◌, ◌≤ℤ◌, ◌+ℤ◌, ℕ, ℤ, Bool, false, not, List, fold, neg_ℤ, pos, if◌then◌else◌, ⊤}
use Rattle.std.specs.List.{list_any}
use Rattle.scenarios.specs.declared.edits.Edit.{Edit}
use Rattle.scenarios.specs.declared.edits.Edit.TheVariants.{RemoveRoute, RemoveTrip, Shift}

-- an edit removes a route
abbrev pub removes_route : ℕ → Edit → Bool
removes_route route (RemoveRoute r) = r == route
removes_route route (RemoveTrip t) = false
removes_route route (Shift t seconds) = false

-- an edit removes a trip by its own number
abbrev pub removes_trip : ℕ → Edit → Bool
removes_trip trip (RemoveRoute r) = false
removes_trip trip (RemoveTrip t) = t == trip
removes_trip trip (Shift t seconds) = false

-- a trip of a route stays where no edit removes the trip or the route
abbrev pub keeps_of : List Edit → ℕ → ℕ → Bool
keeps_of edits trip route = not (list_any (removes_trip trip) edits) && not (list_any (removes_route route) edits)

-- by how much an edit shifts a trip
abbrev pub shift_by : ℕ → Edit → ℤ
shift_by trip (RemoveRoute r) = pos 0
shift_by trip (RemoveTrip t) = pos 0
shift_by trip (Shift t seconds) = if t == trip then seconds else pos 0

-- by how much all edits together shift a trip
abbrev pub shift_of : List Edit → ℕ → ℤ
shift_of edits trip = fold (λ (sum : ℤ) (edit : Edit). sum +ℤ shift_by trip edit) (pos 0) edits

-- a shift is less than a week, either way
abbrev pub IsShift : Edit → Type 0
IsShift (RemoveRoute r) = ⊤
IsShift (RemoveTrip t) = ⊤
IsShift (Shift t seconds) = (neg_ℤ (pos 604799) ≤ℤ seconds) × (seconds ≤ℤ pos 604799)
