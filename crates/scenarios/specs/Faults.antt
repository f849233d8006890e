-- The faults of a scenario's file, in the order in which its records and their checks stand.
-- "What is told is the first fault: the least by record, then by check; out of memory may be told in its place."
use Rattle.std.specs.Prelude.{◌≡◌, ◌⊎◌, Bool, List, [], ◌∷◌, if◌then◌else◌}
use Rattle.table_records.specs.Faults.{IsFirst}
use Rattle.scenarios.specs.declared.faults.ScenarioFault.{ScenarioFault}
use Rattle.scenarios.specs.declared.faults.ScenarioWhat.{ScenarioWhat}
use Rattle.scenarios.specs.declared.faults.ScenarioWhat.TheVariants as what

-- what a check finds: this fault where the record is bad, else nothing
abbrev pub when : Bool → ScenarioWhat → List ScenarioWhat
when bad w = if bad then w ∷ [] else []

-- what may be returned: the first fault, or that there was no memory
abbrev pub Tells : ScenarioFault → List ScenarioFault → Type 0
Tells e faults = (e.what ≡ what.Memory) ⊎ IsFirst e faults
