-- Chains of footpaths: a walk from one stop to another may go along several direct footpaths in succession.
-- The walking time between two stops is the least over all chains, where it is within a limit.
-- (Footpaths that are closed under chains are what the RAPTOR paper asks for: Delling, Pajor, Werneck, ALENEX 2012.)
use Rattle.std.specs.Prelude.{◌≡◌, ◌≢◌, ℕ, ◌<◌, ◌≤◌, List, [], ◌∷◌, length, sum_by, All, Contains}
use Rattle.timetable.specs.Least.{IsLeast}
use Rattle.footpaths.specs.Direct.{Footpath}

-- the first of these footpaths begins at stop a, each next one where the one before it ended, and the last ends at stop
-- b
abbrev pub Leads : List Footpath → ℕ → ℕ → Type 0
Leads [] a b = a ≡ b
Leads (first ∷ rest) a b = (first.0.0 ≡ a) × Leads rest first.1.0 b

-- a chain from a to b: one direct footpath or more, and the seconds of all of them together
pub record IsChain (direct : List Footpath) (a b seconds : ℕ) (chain : List Footpath) : Type 0 where
  pub some : 0 < length chain
  pub given : All (Contains direct) chain
  pub leads : Leads chain a b
  pub sum : sum_by (λ path. path.2) chain ≡ seconds

-- some chain from a to b takes these seconds
abbrev pub HasChain : List Footpath → ℕ → ℕ → ℕ → Type 0
HasChain direct a b seconds = (chain : List Footpath) × IsChain direct a b seconds chain

-- the walking time from a to another stop b: the least over all chains, where it is within the limit
pub record Foot (direct : List Footpath) (limit a b seconds : ℕ) : Type 0 where
  pub other : a ≢ b
  pub least : IsLeast (HasChain direct a b) seconds
  pub within : seconds ≤ limit
