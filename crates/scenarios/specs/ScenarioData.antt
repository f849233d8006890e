-- What contracts see of a scenario.
use Rattle.std.specs.Prelude.{ℕ, List}
use Rattle.scenarios.specs.declared.edits.Edit.{Edit}

-- its name, and what its rows do, in their order
pub record ScenarioData : Type 0 where
  pub name : List ℕ
  pub edits : List Edit
