-- Identifiers that are different from one another: the number of one leads back to it.
use Rattle.std.proofs.Common.{◌≡◌, ◌<◌, ◌+◌, ◌∙◌, ℕ, zero, suc, Bool, true, false, List, [], ◌∷◌, Some, None, length}
use Rattle.std.proofs.Common.{nat_lt, cond, position, arith, refl, sym, ap, if◌then◌else◌}
use Rattle.std.proofs.lemmas.Bool.Decides.{nat_tests}
use Rattle.std.proofs.lemmas.Slice.Eq.{bytes_eq-Decides}
use Rattle.std.specs.Prelude.{slice_get, not}
use Rattle.std.specs.List.{AllByRecursion, IsDistinct, position_or_len}
use Rattle.std.specs.Str.{bytes_eq}
use Rattle.table_records.proofs.DistinctTexts.{found_same, same_bytes}

pub flipped : (a b : List ℕ) → bytes_eq a b ≡ false → bytes_eq b a ≡ false
flipped a b e = grind (arith, bytes_eq-Decides)

-- one of some that all differ from the first
pub differs : (x : List ℕ) (ids : List (List ℕ)) (s : ℕ) (id : List ℕ) →
    AllByRecursion (λ y. bytes_eq x y ≡ false) ids → slice_get ids s ≡ Some id → bytes_eq x id ≡ false
differs x [] s id all e = cc e
differs x (y ∷ ids) zero id all e = let is : y ≡ id = cc e in ap (bytes_eq x) (sym is) ∙ all.0
differs x (y ∷ ids) (suc s) id all e = differs x ids s id all.1 e

found_at : (ids : List (List ℕ)) (s : ℕ) (id : List ℕ) → IsDistinct bytes_eq ids → slice_get ids s ≡ Some id →
    (position_or_len (bytes_eq id) ids ≡ s) × (s < length ids)
unfolding IsDistinct
found_at [] s id apart e = cc e
found_at (x ∷ ids) zero id apart e =
    let is : x ≡ id = cc e in
    let here : bytes_eq id x ≡ true = same_bytes id x (sym is) in
    (rw here refl, omega arith)
found_at (x ∷ ids) (suc s) id apart e =
    let other : bytes_eq id x ≡ false = flipped x id (differs x ids s id apart.0 e) in
    let (is, lt) = found_at ids s id apart.1 e in
    (rw other (omega (arith, is)), omega (arith, lt))

-- the number of an identifier is its position
pub position_of : (ids : List (List ℕ)) (s : ℕ) (id : List ℕ) → IsDistinct bytes_eq ids → slice_get ids s ≡ Some id →
    position (bytes_eq id) ids ≡ Some s
position_of ids s id apart e =
    let (is, lt) = found_at ids s id apart e in
    let within : nat_lt s (length ids) ≡ true = grind (arith, nat_tests) in
    rw (is, within) refl

found : (ids : List (List ℕ)) (id : List ℕ) → position_or_len (bytes_eq id) ids < length ids →
    slice_get ids (position_or_len (bytes_eq id) ids) ≡ Some id
found [] id lt = absurd (omega (arith, lt))
found (x ∷ ids) id lt = by (bytes_eq id x) refl (found ids id) lt
  where
    by : (b : Bool) → bytes_eq id x ≡ b → (position_or_len (bytes_eq id) ids < length ids →
        slice_get ids (position_or_len (bytes_eq id) ids) ≡ Some id)
        → cond (not b) (1 + position_or_len (bytes_eq id) ids) 0 < length (x ∷ ids) →
        slice_get (x ∷ ids) (cond (not b) (1 + position_or_len (bytes_eq id) ids) 0) ≡ Some id
    by true e more less = ap Some (sym (found_same id x e))
    by false e more less =
        let next : 1 + position_or_len (bytes_eq id) ids ≡ suc (position_or_len (bytes_eq id) ids) = omega arith in
        ap (slice_get (x ∷ ids)) next ∙ more (omega (arith, less))

-- the identifier at the number that was found
pub at_position : (ids : List (List ℕ)) (n : ℕ) (id : List ℕ) → Some n ≡ position (bytes_eq id) ids →
    slice_get ids n ≡ Some id
at_position ids n id e = by (nat_lt (position_or_len (bytes_eq id) ids) (length ids)) refl e
  where
    by : (b : Bool) → nat_lt (position_or_len (bytes_eq id) ids) (length ids) ≡ b →
        Some n ≡ (if b then Some (position_or_len (bytes_eq id) ids) else None) → slice_get ids n ≡ Some id
    by true h s =
        let is : n ≡ position_or_len (bytes_eq id) ids = cc s in
        let lt : position_or_len (bytes_eq id) ids < length ids = grind (arith, nat_tests) in
        ap (slice_get ids) is ∙ found ids id lt
    by false h s = cc s
