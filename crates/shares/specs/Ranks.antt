-- The lists of cells that grow stop by stop.
use Rattle.std.specs.Prelude.{◌≡◌, ◌++◌, ℕ, List, [], ◌∷◌, Option, Some, Vec, length, slice_get, All}
use Rattle.std.specs.Global.{Global}
use Rattle.rounds.specs.Table.{known_of, label_in, IsLeastOrNone}
use Rattle.shares.specs.Percentiles.{Attains}

-- so many lists, all empty
pub record AreEmpty (n : ℕ) (lists : List (Vec (Option ℕ) Global)) : Type 0 where
  pub count : length lists ≡ n
  pub each : All (λ (l : Vec (Option ℕ) Global). l.items ≡ []) lists

-- a list became longer by one cell, which is the least duration that the share of a stop's minutes attains
pub record IsLonger (lanes : List (List ℕ)) (minutes share : ℕ) (old new : Vec (Option ℕ) Global) : Type 0 where
  pub cell : Option ℕ
  pub items : new.items ≡ old.items ++ cell ∷ []
  pub is_cell : IsLeastOrNone (Attains (λ m. known_of (label_in lanes m)) minutes share) cell

-- each list became longer by the cell of its share
pub record AreLonger (lanes : List (List ℕ)) (minutes : ℕ) (shares : List ℕ)
    (old new : List (Vec (Option ℕ) Global)) : Type 0 where
  pub count : length new ≡ length old
  pub each : (k share : ℕ) (before after : Vec (Option ℕ) Global) → slice_get shares k ≡ Some share →
      slice_get old k ≡ Some before → slice_get new k ≡ Some after → IsLonger lanes minutes share before after
