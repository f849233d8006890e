-- Narrow labels that are taken in another order, by the positions of their bytes.
use Rattle.std.proofs.Common.{◌≡◌, ℕ, ◌+◌, ◌*◌, ◌/◌, ◌%◌, ◌<◌, ◌⊎◌, inl, inr, List, [], ◌∷◌, length, get_or}
use Rattle.std.proofs.Common.{sym, ◌∙◌, ap, arith, subst, ltb, w8}
use Rattle.std.proofs.lemmas.Bool.{or_right, lt-ltb}
use Rattle.std.proofs.lemmas.Simd.{get_or-chunk, length-chunk}
use lib.Dec.{T}
use lib.Lanes.{chunk, number_l}
use mathlib.Core.Bool.{◌||◌}
use mir.Val.{zeroes}

-- the number that two bytes make
two_bytes : (bytes : List ℕ) → length bytes ≡ 2 → number_l 256 bytes ≡ get_or bytes 0 0 + 256 * get_or bytes 1 0
two_bytes (a ∷ b ∷ []) long = omega arith
two_bytes _ long = absurd (omega (arith, long))

-- each of the numbers that sixteen bytes make
pub two_from : (bytes : List ℕ) (l : ℕ) → l < 8 → length bytes ≡ 16 → number_l 256 (chunk (2 * l) 2 bytes)
    ≡ get_or bytes (2 * l) 0 + 256 * get_or bytes (2 * l + 1) 0
two_from bytes l lt long =
    let part = chunk (2 * l) 2 bytes in
    let first : 2 * l + 0 ≡ 2 * l = omega arith in
    let zero = ap (λ (i : ℕ). get_or bytes i 0) first in
    let a = get_or-chunk (2 * l) 2 bytes 0 0 (omega arith) in
    let b = get_or-chunk (2 * l) 2 bytes 1 0 (omega arith) in
    two_bytes part (length-chunk (2 * l) 2 bytes (omega (arith, lt, long))) ∙ omega (arith, zero, a, b)

-- a place of one of sixteen bytes, or of none, is one that bytes are moved by
pub is_place : (j : ℕ) → (j < 16) ⊎ (j ≡ 128) → T (zeroes 16 w8 j || ltb j 16)
is_place j (inl lt) = subst T (sym (or_right (zeroes 16 w8 j) (ltb j 16) (lt-ltb j 16 lt))) tt
is_place j (inr e) = subst (λ i. T (zeroes 16 w8 i || ltb i 16)) (sym e) tt

-- a narrow label is made of its bytes
pub whole_of_two : (x : ℕ) → x < 65536 → x % 256 + 256 * (x / 256 % 256) ≡ x
whole_of_two x l = omega (arith, l)
