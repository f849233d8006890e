-- The part of a path after its last slash, as a walk along the path finds it.
use Rattle.std.proofs.Common.{◌≡◌, ◌==◌, ℕ, Bool, true, false, List, [], ◌∷◌, refl, if◌then◌else◌}
use Rattle.std.specs.List.{list_any}
use Rattle.command_line.specs.Paths.{after_slash}

abbrev pub has_slash : List ℕ → Bool
has_slash bs = list_any (λ b. b == 47) bs

-- what a walk will find: the part after the last slash that is left, else the name so far
abbrev pub found : List ℕ → List ℕ → List ℕ
found name rest = if has_slash rest then after_slash rest else name

-- a path without a slash is its own name
pub found_whole : (bs : List ℕ) → after_slash bs ≡ found bs bs
found_whole [] = refl
found_whole (b ∷ bs) = go (has_slash (b ∷ bs)) refl
  where
    go : (t : Bool) → has_slash (b ∷ bs) ≡ t → after_slash (b ∷ bs) ≡ found (b ∷ bs) (b ∷ bs)
    go true e = rw e refl
    go false e = rw e refl
