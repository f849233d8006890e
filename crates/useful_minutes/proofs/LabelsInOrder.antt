-- Labels that are taken in another order, by the positions of their bytes.
use Rattle.std.proofs.Common.{◌≡◌, ℕ, zero, suc, ◌+◌, ◌-◌, ◌*◌, ◌/◌, ◌%◌, ◌<◌, ◌≤◌, List, [], ◌∷◌, length, get_or}
use Rattle.std.proofs.Common.{slice_index, sym, ◌∙◌, ap, arith, ltb, min, replicate}
use Rattle.std.proofs.Math.Nat.{mod-eq_of_lt, add-mod_left}
use Rattle.std.proofs.lemmas.Simd.{get_or-chunk, length-chunk, get_or-zip2, length-zip2, get_or-replicate}
use Rattle.std.proofs.lemmas.Simd.{length-replicate}
use Rattle.trip_lanes.proofs.VectorChoices.{capped, chosen, length-chosen, smaller_at}
use Rattle.useful_minutes.specs.Orders.{AreSteps}
use lib.Lanes.{chunk, number_l, zip2}
use mir.Syntax.{w32}

-- some minutes on, the position is no lower, and no further on than they are
pub some_on : (positions : List ℕ) → AreSteps positions → (m l : ℕ) → m + l < length positions →
    (slice_index positions m ≤ slice_index positions (m + l))
    × (slice_index positions (m + l) ≤ slice_index positions m + l)
some_on positions steps m zero within =
    let e : m + zero ≡ m = omega arith in
    let same = ap (λ (i : ℕ). slice_index positions i) e in
    (omega (arith, same), omega (arith, same))
some_on positions steps m (suc l) within =
    let e : m + suc l ≡ m + l + 1 = omega arith in
    let same = ap (λ (i : ℕ). slice_index positions i) e in
    let h = some_on positions steps m l (omega (arith, within)) in
    let up = steps.rise (m + l) (omega (arith, within)) in
    let one = steps.by_one (m + l) (omega (arith, within)) in
    (omega (arith, same, h.0, up), omega (arith, same, h.1, one))

-- the number that four bytes make
four_bytes : (bytes : List ℕ) → length bytes ≡ 4 → number_l 256 bytes ≡ get_or bytes 0 0 + (256 * get_or bytes 1 0
    + (65536 * get_or bytes 2 0 + 16777216 * get_or bytes 3 0))
four_bytes (a ∷ b ∷ c ∷ d ∷ []) long = omega arith
four_bytes _ long = absurd (omega (arith, long))

-- each of the numbers that sixteen bytes make
pub four_from : (bytes : List ℕ) (l : ℕ) → l < 4 → length bytes ≡ 16 → number_l 256 (chunk (4 * l) 4 bytes)
    ≡ get_or bytes (4 * l) 0 + (256 * get_or bytes (4 * l + 1) 0 + (65536 * get_or bytes (4 * l + 2) 0
    + 16777216 * get_or bytes (4 * l + 3) 0))
four_from bytes l lt long =
    let part = chunk (4 * l) 4 bytes in
    let first : 4 * l + 0 ≡ 4 * l = omega arith in
    let zero = ap (λ (i : ℕ). get_or bytes i 0) first in
    let a = get_or-chunk (4 * l) 4 bytes 0 0 (omega arith) in
    let b = get_or-chunk (4 * l) 4 bytes 1 0 (omega arith) in
    let c = get_or-chunk (4 * l) 4 bytes 2 0 (omega arith) in
    let d = get_or-chunk (4 * l) 4 bytes 3 0 (omega arith) in
    four_bytes part (length-chunk (4 * l) 4 bytes (omega (arith, lt, long))) ∙ omega (arith, zero, a, b, c, d)

-- a number is made of its bytes
pub whole : (x : ℕ) → x < 4294967296 → x % 256 + (256 * (x / 256 % 256) + (65536 * (x / 65536 % 256)
    + 16777216 * (x / 16777216 % 256))) ≡ x
whole x l = omega (arith, l)

-- how far each wait is from the greatest number
abbrev pub room_for : List ℕ → List ℕ
room_for waits = zip2 (λ a b. (a + (4294967296 - b)) % 4294967296) (replicate 16 4294967295) waits

-- a label and its wait, where sums stop at the greatest number
pub waits_at : (labels waits : List ℕ) (l : ℕ) → l < 16 → length labels ≡ 16 → length waits ≡ 16 →
    get_or waits l 0 ≤ 4294967295 →
    get_or (zip2 (λ a b. (a + b) % 4294967296) (chosen w32 ltb labels (room_for waits) labels (room_for waits)) waits) l
    0 ≡ min (get_or labels l 0 + get_or waits l 0) 4294967295
waits_at labels waits l h labels_len waits_len fits =
    let most : List ℕ = replicate 16 4294967295 in
    let most_len : length most ≡ 16 = length-replicate {A = ℕ} 16 4294967295 in
    let less : ℕ → ℕ → ℕ = λ a b. (a + (4294967296 - b)) % 4294967296 in
    let room = room_for waits in
    let room_len : length room ≡ 16 = length-zip2 less most waits (most_len ∙ sym waits_len) ∙ most_len in
    let again : 4294967295 + (4294967296 - get_or waits l 0) ≡ 4294967296 + (4294967295 - get_or waits l 0) =
    omega (arith, fits) in
    let left : get_or room l 0 ≡ 4294967295 - get_or waits l 0 =
    get_or-zip2 less most waits l 0 0 0 (omega (arith, h, most_len)) (omega (arith, h, waits_len))
    ∙ rw (get_or-replicate {A = ℕ} 16 l 4294967295 0 h, again)
    (add-mod_left 4294967296 (4294967295 - get_or waits l 0) ∙ mod-eq_of_lt (omega arith)) in
    let early = chosen w32 ltb labels room labels room in
    let early_len = length-chosen w32 16 ltb labels room labels room labels_len room_len labels_len room_len in
    get_or-zip2 _ early waits l 0 0 0 (omega (arith, h, early_len)) (omega (arith, h, waits_len))
    ∙ rw (smaller_at w32 16 labels room l h labels_len room_len, left)
    (capped (get_or labels l 0) (get_or waits l 0) 4294967295 fits)
