-- A scenario: its name, and what its rows do. The scenario `base` has no rows.
use Rattle.std.specs.Prelude.{◌≡◌, ◌≤◌, ℕ, List, All, codes, false, length, pos, slice_index_or}
use Rattle.std.specs.List.{list_any}
use Rattle.scenarios.specs.declared.name.Name.{Name}
use Rattle.scenarios.specs.declared.name.Name.TheVariants.{Base, Given}
use Rattle.scenarios.specs.declared.scenario.Scenario.TheInside.{Inside}
use Rattle.scenarios.specs.declared.edits.TheConstants.{MOST_EDITS}
use Rattle.scenarios.specs.Edits.{IsShift, removes_route, removes_trip, shift_of}
use Rattle.scenarios.specs.ScenarioData.{ScenarioData}

-- the bytes of a name
abbrev pub name_of : Name → List ℕ
name_of Base = codes "base"
name_of (Given name) = name.items

-- a scenario as its fields show it
abbrev pub scenario_of : Inside → ScenarioData
scenario_of s = record { name = name_of s.name; edits = s.edits.items }

-- what is looked up by route or trip is what the edits do; past the end of a list nothing is removed or shifted
pub record IsLookedUp (s : Inside) : Type 0 where
  pub routes : (route : ℕ) → slice_index_or s.removed_routes.items route false
      ≡ list_any (removes_route route) s.edits.items
  pub trips : (trip : ℕ) → slice_index_or s.removed_trips.items trip false ≡ list_any (removes_trip trip) s.edits.items
  pub shifts : (trip : ℕ) → slice_index_or s.shifts.items trip (pos 0) ≡ shift_of s.edits.items trip
  pub few : length s.edits.items ≤ MOST_EDITS
  pub within : All IsShift s.edits.items
