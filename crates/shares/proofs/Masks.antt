-- Words that show which labels are of a kind: what both of two show, and what one shows and the other does not.
use Rattle.std.proofs.Common.{◌≡◌, ◌≤◌, ◌<◌, ◌+◌, ◌*◌, ◌%◌, ◌-◌, ◌^◌, ◌++◌, ◌⊎◌, ◌&&◌, inl, inr, ℕ, zero, suc, Bool}
use Rattle.std.proofs.Common.{true, false, not, cond, bit_and, List, [], ◌∷◌, length, map, slice_index_or, sym, ap}
use Rattle.std.proofs.Common.{refl, ◌∙◌, arith}
use Rattle.std.specs.Int.{bit_at, bit_not}
use Rattle.std.specs.Int.Bits.{bit_xor, xor_zero_r}
use Rattle.std.specs.Int.RustNames.{count_ones}
use Rattle.std.proofs.Math.Nat.{pow-le-pow_right}
use Rattle.std.proofs.lemmas.Nat.{and_block, and_comm, and-not, xor_lt}
use Rattle.std.proofs.lemmas.Nat.Bits.{same_from_bits_below, bit_at_xor, bit_at_ones, bit_at_not, bit_at-lt}
use Rattle.std.proofs.lemmas.List.{length-map, length-append, get_or_past}
use Rattle.std.proofs.lemmas.Simd.{mask_l-lt, ones-mask_l_cons}
use Rattle.std.proofs.lemmas.Grind.{pow_more}
use mir.Syntax.{w64}
use Rattle.std.proofs.lemmas.Bool.{cases_lt}
use Rattle.shares.specs.Planes.{AreMasks, block, count_of, how_many, mask}

pair : (r s m n k : ℕ) → r < 2 → s < 2 → bit_and r s ≡ k → bit_and (r + 2 * m) (s + 2 * n) ≡ k + 2 * bit_and m n
pair r s m n k x y e =
    let a : r + 2 * m ≡ m * 2 ^ 1 + r = omega arith in
    let b : s + 2 * n ≡ n * 2 ^ 1 + s = omega arith in
    let c : bit_and m n * 2 ^ 1 + bit_and r s ≡ k + 2 * bit_and m n = omega (arith, e) in
    (λ i. bit_and (a i) (b i)) ∙ (and_block 1 m n r s x y ∙ c)

pair_bits : (b c : Bool) (m n : ℕ) → bit_and (cond b 1 0 + 2 * m) (cond c 1 0 + 2 * n)
    ≡ cond (b && c) 1 0 + 2 * bit_and m n
pair_bits true true m n = pair 1 1 m n 1 (omega arith) (omega arith) refl
pair_bits true false m n = pair 1 0 m n 0 (omega arith) (omega arith) refl
pair_bits false true m n = pair 0 1 m n 0 (omega arith) (omega arith) refl
pair_bits false false m n = pair 0 0 m n 0 (omega arith) (omega arith) refl

pub mask_and : (P Q : ℕ → Bool) (xs : List ℕ) → bit_and (mask P xs) (mask Q xs) ≡ mask (λ x. P x && Q x) xs
mask_and P Q [] = refl
mask_and P Q (x ∷ xs) = pair_bits (P x) (Q x) (mask P xs) (mask Q xs)
    ∙ ap (λ (k : ℕ). cond (P x && Q x) 1 0 + 2 * k) (mask_and P Q xs)

parted : (b c : Bool) → cond (b && not c) 1 0 + cond (b && c) 1 0 ≡ cond b 1 0
parted true true = refl
parted true false = refl
parted false true = refl
parted false false = refl

mask_parted : (P Q : ℕ → Bool) (xs : List ℕ) → mask (λ x. P x && not (Q x)) xs + mask (λ x. P x && Q x) xs ≡ mask P xs
mask_parted P Q [] = refl
mask_parted P Q (x ∷ xs) = let rest = mask_parted P Q xs in let here = parted (P x) (Q x) in omega (arith, rest, here)

-- to flip all bits
flip_all : (p : ℕ) → p < 2 ^ 64 → bit_xor p (2 ^ 64 - 1) ≡ bit_not w64 p
flip_all p low = same_from_bits_below 64 (bit_xor p (2 ^ 64 - 1)) (bit_not w64 p)
    (xor_lt 64 p (2 ^ 64 - 1) low (omega arith)) (omega arith) (λ i h.
    let x = bit_at_xor p (2 ^ 64 - 1) i in
    let o = bit_at_ones 64 i h in
    let n = bit_at_not w64 p i low h in
    let b = bit_at-lt p i in
    let sum : (bit_at p i + bit_at (2 ^ 64 - 1) i) % 2 ≡ 1 - bit_at p i = omega (arith, o, b) in
    x ∙ (sum ∙ sym n))

pub mask_low : (P : ℕ → Bool) (xs : List ℕ) → length xs ≤ 64 → mask P xs < 2 ^ 64
mask_low P xs few =
    let low = mask_l-lt (map P xs) in
    let long = length-map xs P in
    let up : 2 ^ length (map P xs) ≤ 2 ^ 64 =
    pow-le-pow_right {n = 2} (omega arith) {i = length (map P xs)} {j = 64} (omega (arith, long, few)) in
    omega (arith, low, up)

pub mask_without : (P Q : ℕ → Bool) (xs : List ℕ) → length xs ≤ 64 →
    bit_and (mask P xs) (bit_xor (mask Q xs) (2 ^ 64 - 1)) ≡ mask (λ x. P x && not (Q x)) xs
mask_without P Q xs few =
    let p = mask P xs in
    let q = mask Q xs in
    let flipped = ap (λ (k : ℕ). bit_and p k) (flip_all q (mask_low Q xs few)) in
    let turned = and_comm p (bit_not w64 q) in
    let rest = and-not 64 q p (mask_low Q xs few) (mask_low P xs few) in
    let both = and_comm q p ∙ mask_and P Q xs in
    let sum = mask_parted P Q xs in
    flipped ∙ (turned ∙ omega (arith, rest, both, sum))

pub ones_mask : (P : ℕ → Bool) (xs : List ℕ) → count_ones (mask P xs) ≡ how_many P xs
unfolding count_ones
ones_mask P [] = refl
ones_mask P (x ∷ xs) = ones-mask_l_cons (P x) (map P xs) ∙ ap (λ (k : ℕ). cond (P x) 1 0 + k) (ones_mask P xs)

pub mask_same : (P Q : ℕ → Bool) (xs : List ℕ) → ((x : ℕ) → P x ≡ Q x) → mask P xs ≡ mask Q xs
mask_same P Q [] same = refl
mask_same P Q (x ∷ xs) same = let rest = mask_same P Q xs same in
    let here = ap {B = ℕ} (λ (b : Bool). cond b 1 0) (same x) in omega (arith, rest, here)

-- words side by side
pub mask_joined : (P : ℕ → Bool) (xs ys : List ℕ) → (length xs ≡ 16) ⊎ (ys ≡ []) →
    mask P (xs ++ ys) ≡ mask P xs + 65536 * mask P ys
mask_joined P xs ys full = elim full [
  | inl long ↦ joined P xs ys 16 long
  | inr none ↦ rw none (alone P xs)
]
  where
    joined : (P : ℕ → Bool) (xs ys : List ℕ) (n : ℕ) → length xs ≡ n → mask P (xs ++ ys) ≡ mask P xs + 2 ^ n * mask P ys
    joined P [] ys n long = rw (← long) (omega arith)
    joined P (x ∷ xs) ys n long =
        let rest = joined P xs ys (length xs) refl in
        let longer : n ≡ length xs + 1 = omega (arith, long) in
        let more : 2 ^ n ≡ 2 ^ length xs * 2 = ap (λ (k : ℕ). 2 ^ k) longer ∙ pow_more 2 (length xs) in
        let times : 2 ^ n * mask P ys ≡ 2 * (2 ^ length xs * mask P ys) =
        ap (λ (k : ℕ). k * mask P ys) more ∙ omega arith in
        omega (arith, rest, times)

    alone : (P : ℕ → Bool) (xs : List ℕ) → mask P (xs ++ []) ≡ mask P xs + 65536 * mask P []
    alone P [] = refl
    alone P (x ∷ xs) = let rest = alone P xs in omega (arith, rest)

-- four batches have at most sixty-four lanes
pub block_few : (lanes : List (List ℕ)) (w : ℕ) →
    ((i : ℕ) → i < length lanes → length (slice_index_or lanes i []) ≡ 16) → length (block lanes w) ≤ 64
unfolding block
block_few lanes w rows =
    let row : (i : ℕ) → length (slice_index_or lanes i []) ≤ 16 = λ i. elim (cases_lt i (length lanes)) [
      | inl lt ↦ let e = rows i lt in omega (arith, e)
      | inr ge ↦ let e = ap (λ (xs : List ℕ). length xs) (get_or_past lanes i [] ge) in omega (arith, e)
    ] in
    let a = slice_index_or lanes (4 * w) [] in
    let b = slice_index_or lanes (4 * w + 1) [] in
    let c = slice_index_or lanes (4 * w + 2) [] in
    let d = slice_index_or lanes (4 * w + 3) [] in
    let x = length-append a (b ++ (c ++ d)) in
    let y = length-append b (c ++ d) in
    let z = length-append c d in
    omega (arith, x, y, z, row (4 * w), row (4 * w + 1), row (4 * w + 2), row (4 * w + 3))

many_adds : (R P Q : ℕ → Bool) (xs : List ℕ) → ((x : ℕ) → cond (R x) 1 0 ≡ cond (P x) 1 0 + cond (Q x) 1 0) →
    how_many R xs ≡ how_many P xs + how_many Q xs
many_adds R P Q [] sums = refl
many_adds R P Q (x ∷ xs) sums = let rest = many_adds R P Q xs sums in let here = sums x in omega (arith, rest, here)

-- a kind that two kinds make up
pub count_adds : (R P Q : ℕ → Bool) (lanes : List (List ℕ)) (w : ℕ) →
    ((x : ℕ) → cond (R x) 1 0 ≡ cond (P x) 1 0 + cond (Q x) 1 0) →
    count_of R lanes w ≡ count_of P lanes w + count_of Q lanes w
count_adds R P Q lanes zero sums = refl
count_adds R P Q lanes (suc w) sums = let rest = count_adds R P Q lanes w sums in
    let here = many_adds R P Q (block lanes w) sums in omega (arith, rest, here)

many_same : (P Q : ℕ → Bool) (xs : List ℕ) → ((x : ℕ) → P x ≡ Q x) → how_many P xs ≡ how_many Q xs
many_same P Q [] same = refl
many_same P Q (x ∷ xs) same = let rest = many_same P Q xs same in
    let here = ap {B = ℕ} (λ (b : Bool). cond b 1 0) (same x) in omega (arith, rest, here)

pub count_same : (P Q : ℕ → Bool) (lanes : List (List ℕ)) (w : ℕ) → ((x : ℕ) → P x ≡ Q x) →
    count_of P lanes w ≡ count_of Q lanes w
count_same P Q lanes zero same = refl
count_same P Q lanes (suc w) same = let rest = count_same P Q lanes w same in
    let here = many_same P Q (block lanes w) same in omega (arith, rest, here)

pub masks_same : (P Q : ℕ → Bool) (lanes : List (List ℕ)) (words : ℕ) (masks : List ℕ) → ((x : ℕ) → P x ≡ Q x) →
    AreMasks P lanes words masks → AreMasks Q lanes words masks
masks_same P Q lanes words masks same are = record { each = λ w l. are.each w l ∙ mask_same P Q (block lanes w) same }

many_none : (P : ℕ → Bool) (xs : List ℕ) → ((x : ℕ) → P x ≡ false) → how_many P xs ≡ 0
many_none P [] none = refl
many_none P (x ∷ xs) none = let rest = many_none P xs none in
    let here = ap {B = ℕ} (λ (b : Bool). cond b 1 0) (none x) in omega (arith, rest, here)

pub count_none : (P : ℕ → Bool) (lanes : List (List ℕ)) (w : ℕ) → ((x : ℕ) → P x ≡ false) → count_of P lanes w ≡ 0
count_none P lanes zero none = refl
count_none P lanes (suc w) none = let rest = count_none P lanes w none in let here = many_none P (block lanes w) none in
    omega (arith, rest, here)

-- what is kept of a word
pub kept_word : (with : Bool) (P Q : ℕ → Bool) (xs : List ℕ) (side : ℕ) → length xs ≤ 64 →
    side ≡ cond with 0 (2 ^ 64 - 1) → bit_and (mask P xs) (bit_xor (mask Q xs) side)
    ≡ mask (λ x. P x && cond with (Q x) (not (Q x))) xs
kept_word true P Q xs side few is = ap (λ (k : ℕ). bit_and (mask P xs) (bit_xor (mask Q xs) k)) is
    ∙ (ap (λ (k : ℕ). bit_and (mask P xs) k) (xor_zero_r (mask Q xs)) ∙ mask_and P Q xs)
kept_word false P Q xs side few is = ap (λ (k : ℕ). bit_and (mask P xs) (bit_xor (mask Q xs) k)) is
    ∙ mask_without P Q xs few

pub count_next : (P : ℕ → Bool) (lanes : List (List ℕ)) (w : ℕ) →
    count_of P lanes (w + 1) ≡ count_of P lanes w + how_many P (block lanes w)
count_next P lanes w = ap (λ (k : ℕ). count_of P lanes k) (let e : w + 1 ≡ suc w = omega arith in e)
