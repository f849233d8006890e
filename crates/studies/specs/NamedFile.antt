-- A scenario file, as contracts see it.
use Rattle.std.specs.Prelude.{ℕ, List}

-- the name of its scenario, and its bytes
pub record NamedBytes : Type 0 where
  pub name : List ℕ
  pub bytes : List ℕ
