-- Memory that a search holds between two batches or origins.
-- "In a network of many stops a workspace gives its memory back." (The program's own rule.)
use Rattle.std.specs.Prelude.{◌≡◌, vec_capacity}
use Rattle.rounds.specs.declared.workspace.Workspace.{Workspace}

-- no list of a workspace holds memory
pub record HoldsNothing {R : Type 0} (w : Workspace R) : Type 0 where
  pub ride : vec_capacity w.ride ≡ 0
  pub marked : vec_capacity w.marked ≡ 0
  pub labels : vec_capacity w.ready.labels ≡ 0
  pub fallen : vec_capacity w.ready.fallen ≡ 0
  pub before : vec_capacity w.ready.before ≡ 0
  pub falls : vec_capacity w.falls ≡ 0
  pub due : vec_capacity w.due ≡ 0
