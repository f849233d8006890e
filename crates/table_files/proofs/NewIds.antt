-- Identifiers with one that is new among them.
use Rattle.std.proofs.Common.{◌≡◌, ℕ, Bool, true, false, List, [], ◌∷◌, ◌++◌, length, refl, arith}
use Rattle.std.proofs.lemmas.Bool.Decides.{nat_tests}
use Rattle.std.proofs.lemmas.Slice.Eq.{bytes_eq-Decides}
use Rattle.std.proofs.lemmas.Bool.{or_parts}
use Rattle.std.specs.Prelude.{◌==◌, not}
use Rattle.std.specs.List.{AllByRecursion, IsDistinct, list_any}
use Rattle.std.specs.Str.{bytes_eq}
use Rattle.table_records.specs.Fields.{is_empty}

pub empty_length : (xs : List ℕ) → (length xs == 0) ≡ is_empty xs
empty_length [] = refl
empty_length (x ∷ xs) = grind (arith, nat_tests)

pub is_new : (b : Bool) → b ≡ true → (c : Bool) → b ≡ not c → c ≡ false
is_new b e true h = cc (e, h)
is_new b e false h = refl

-- identifiers, and one that is none of them
pub distinct_push : (ids : List (List ℕ)) (id : List ℕ) → IsDistinct bytes_eq ids → list_any (bytes_eq id) ids ≡ false →
    IsDistinct bytes_eq (ids ++ id ∷ [])
unfolding IsDistinct
distinct_push [] id apart new = (tt, tt)
distinct_push (x ∷ ids) id apart new =
    let (first, others) = or_parts (bytes_eq id x) _ new in
    (differs_push x ids id apart.0 (flipped id x first), distinct_push ids id apart.1 others)
  where
    flipped : (a b : List ℕ) → bytes_eq a b ≡ false → bytes_eq b a ≡ false
    flipped a b e = grind (arith, bytes_eq-Decides)

    differs_push : (y : List ℕ) (xs : List (List ℕ)) (z : List ℕ) → AllByRecursion (λ k. bytes_eq y k ≡ false) xs →
        bytes_eq y z ≡ false
        → AllByRecursion (λ k. bytes_eq y k ≡ false) (xs ++ z ∷ [])
    differs_push y [] z h e = (e, tt)
    differs_push y (x ∷ xs) z h e = (h.0, differs_push y xs z h.1 e)
