-- The label of a rank, found bit by bit.
use Rattle.std.proofs.Common.{◌≡◌, ◌≤◌, ◌<◌, ◌+◌, ◌*◌, ◌/◌, ◌%◌, ◌-◌, ◌^◌, ◌&&◌, inl, inr, ℕ, Bool, true, false, not}
use Rattle.std.proofs.Common.{cond, eqb, leb, ltb, bit_and, List, sym, ap, refl, ◌∙◌, arith}
use Rattle.std.specs.Int.{bit_at}
use Rattle.std.proofs.lemmas.Nat.{pow_pos, shr-shr, field_of, and_le_r}
use Rattle.std.proofs.lemmas.Nat.Bits.{and_pow, bit_at-lt}
use Rattle.std.proofs.Math.Pow.{mod-mod-pow}
use Rattle.std.proofs.lemmas.Bool.{cases_eq}
use Rattle.std.proofs.lemmas.Bool.Decides.{nat_tests}
use Rattle.shares.specs.Planes.{AreMasks, IsRanked, count_of, has, words_of}
use Rattle.shares.proofs.Masks.{count_adds, count_none, count_same, masks_same}

-- what a label shows of its highest bits
abbrev pub high : ℕ → ℕ → ℕ → ℕ
high bits j x = x % 2 ^ bits / 2 ^ j

-- those that agree with a value in all bits but the lowest, and the rank that is left among them
pub record Narrowed (lanes : List (List ℕ)) (bits j value left size rank : ℕ) (among : List ℕ) : Type 0 where
  pub masks : AreMasks (λ x. eqb (high bits j x) value) lanes (words_of lanes) among
  pub counted : size ≡ count_of (λ x. eqb (high bits j x) value) lanes (words_of lanes)
  pub ranked : count_of (λ x. ltb (high bits j x) value) lanes (words_of lanes) + left ≡ rank
  pub some : 1 ≤ left
  pub few : left ≤ size

halved : (bits j x : ℕ) → high bits (j + 1) x ≡ high bits j x / 2
halved bits j x = sym (shr-shr (x % 2 ^ bits) j 1)

bit_here : (b p : ℕ) → b < 2 → 0 < p → eqb (b * p) p ≡ eqb b 1
bit_here b p low pos = elim (cases_eq b 0) [
  | inl e ↦ rw e (grind (arith, nat_tests, pos))
  | inr ne ↦ let one : b ≡ 1 = omega arith in rw one (grind (arith, nat_tests))
]

-- the plane of a bit
shown : (bits j x : ℕ) → j < bits → has (2 ^ j) x ≡ eqb (high bits j x % 2) 1
shown bits j x l =
    let k : ℕ = bits - j - 1 in
    let e : bits ≡ k + 1 + j = omega arith in
    let field : high bits j x ≡ x / 2 ^ j % 2 ^ (k + 1) = ap (λ (n : ℕ). x % 2 ^ n / 2 ^ j) e ∙ field_of x (k + 1) j in
    let low : high bits j x % 2 ≡ bit_at x j = ap (λ (n : ℕ). n % 2) field ∙ mod-mod-pow (x / 2 ^ j) k 1 in
    ap (λ (n : ℕ). eqb n (2 ^ j)) (and_pow x j)
    ∙ (bit_here (bit_at x j) (2 ^ j) (bit_at-lt x j) (pow_pos j) ∙ ap (λ (n : ℕ). eqb n 1) (sym low))

ones_of : (y h : ℕ) → (eqb (y / 2) h && eqb (y % 2) 1) ≡ eqb y (2 * h + 1)
ones_of y h = grind (arith, nat_tests)

zeros_of : (y h : ℕ) → (eqb (y / 2) h && not (eqb (y % 2) 1)) ≡ eqb y (2 * h)
zeros_of y h = grind (arith, nat_tests)

below_zeros : (y h : ℕ) → ltb (y / 2) h ≡ ltb y (2 * h)
below_zeros y h = grind (arith, nat_tests)

below_ones : (y h : ℕ) → cond (ltb y (2 * h + 1)) 1 0 ≡ cond (ltb (y / 2) h) 1 0 + cond (eqb y (2 * h)) 1 0
below_ones y h = grind (arith, nat_tests)

made_up : (y h : ℕ) → cond (eqb (y / 2) h) 1 0 ≡ cond (eqb y (2 * h + 1)) 1 0 + cond (eqb y (2 * h)) 1 0
made_up y h = grind (arith, nat_tests)

not_above : (y v : ℕ) → cond (leb y v) 1 0 ≡ cond (ltb y v) 1 0 + cond (eqb y v) 1 0
not_above y v = grind (arith, nat_tests)

module _ (lanes : List (List ℕ)) (bits j value left size rank : ℕ) (among : List ℕ) (in_bits : j
    < bits) (old : Narrowed lanes bits (j + 1) value left size rank among) where
  abbrev pub words : ℕ
  words = words_of lanes

  -- which of them have the next bit
  with_bit : (x : ℕ) → (eqb (high bits (j + 1) x) value && has (2 ^ j) x) ≡ eqb (high bits j x) (2 * value + 1)
  with_bit x = (λ i. eqb (halved bits j x i) value && shown bits j x in_bits i) ∙ ones_of (high bits j x) value

  without_bit : (x : ℕ) → (eqb (high bits (j + 1) x) value && not (has (2 ^ j) x)) ≡ eqb (high bits j x) (2 * value)
  without_bit x = (λ i. eqb (halved bits j x i) value && not (shown bits j x in_bits i))
      ∙ zeros_of (high bits j x) value

  pub ones_counted : count_of (λ x. eqb (high bits (j + 1) x) value && has (2 ^ j) x) lanes words
      ≡ count_of (λ x. eqb (high bits j x) (2 * value + 1)) lanes words
  ones_counted = count_same (λ x. eqb (high bits (j + 1) x) value && has (2 ^ j) x)
      (λ x. eqb (high bits j x) (2 * value + 1)) lanes words with_bit

  sizes : count_of (λ x. eqb (high bits (j + 1) x) value) lanes words
      ≡ count_of (λ x. eqb (high bits j x) (2 * value + 1)) lanes words + count_of
      (λ x. eqb (high bits j x) (2 * value)) lanes words
  sizes = count_adds (λ x. eqb (high bits (j + 1) x) value) (λ x. eqb (high bits j x) (2 * value + 1))
      (λ x. eqb (high bits j x) (2 * value)) lanes words
      (λ x. ap (λ (n : ℕ). cond (eqb n value) 1 0) (halved bits j x) ∙ made_up (high bits j x) value)

  ranks_zeros : count_of (λ x. ltb (high bits (j + 1) x) value) lanes words
      ≡ count_of (λ x. ltb (high bits j x) (2 * value)) lanes words
  ranks_zeros = count_same (λ x. ltb (high bits (j + 1) x) value) (λ x. ltb (high bits j x) (2 * value)) lanes words
      (λ x. ap (λ (n : ℕ). ltb n value) (halved bits j x) ∙ below_zeros (high bits j x) value)

  ranks_ones : count_of (λ x. ltb (high bits j x) (2 * value + 1)) lanes words
      ≡ count_of (λ x. ltb (high bits (j + 1) x) value) lanes words + count_of (λ x. eqb (high bits j x) (2 * value))
      lanes words
  ranks_ones = count_adds (λ x. ltb (high bits j x) (2 * value + 1)) (λ x. ltb (high bits (j + 1) x) value)
      (λ x. eqb (high bits j x) (2 * value)) lanes words
      (λ x. below_ones (high bits j x) value ∙ ap
      (λ (n : ℕ). cond (ltb n value) 1 0 + cond (eqb (high bits j x) (2 * value)) 1 0) (sym (halved bits j x)))

  pub ones_few : (ones : ℕ) → ones ≡ count_of (λ x. eqb (high bits (j + 1) x) value && has (2 ^ j) x) lanes words →
      ones ≤ size
  ones_few ones counted = omega (arith, counted, ones_counted, sizes, old.counted)

  pub step_ones : (ones : ℕ) (kept : List ℕ) →
      ones ≡ count_of (λ x. eqb (high bits (j + 1) x) value && has (2 ^ j) x) lanes words → size - ones < left
      → AreMasks (λ x. eqb (high bits (j + 1) x) value && has (2 ^ j) x) lanes words kept →
      Narrowed lanes bits j (2 * value + 1) (left - (size - ones)) ones rank kept
  step_ones ones kept counted up masks =
      let o = counted ∙ ones_counted in
      record {
        masks = masks_same (λ x. eqb (high bits (j + 1) x) value && has (2 ^ j) x)
            (λ x. eqb (high bits j x) (2 * value + 1)) lanes words kept with_bit masks;
        counted = o;
        ranked = omega (arith, o, sizes, ranks_ones, old.ranked, old.counted, old.few, up);
        some = omega (arith, up);
        few = omega (arith, old.few, up);
      }

  pub step_zeros : (ones : ℕ) (kept : List ℕ) →
      ones ≡ count_of (λ x. eqb (high bits (j + 1) x) value && has (2 ^ j) x) lanes words → left ≤ size - ones
      → AreMasks (λ x. eqb (high bits (j + 1) x) value && not (has (2 ^ j) x)) lanes words kept →
      Narrowed lanes bits j (2 * value) left (size - ones) rank kept
  step_zeros ones kept counted down masks =
      let o = counted ∙ ones_counted in
      record {
        masks = masks_same (λ x. eqb (high bits (j + 1) x) value && not (has (2 ^ j) x))
            (λ x. eqb (high bits j x) (2 * value)) lanes words kept without_bit masks;
        counted = omega (arith, o, sizes, old.counted);
        ranked = omega (arith, ranks_zeros, old.ranked);
        some = old.some;
        few = down;
      }

-- before the first bit all agree
none_high : (bits x : ℕ) → high bits bits x ≡ 0
none_high bits x = let f = field_of x 0 bits in
    ap (λ (n : ℕ). x % 2 ^ n / 2 ^ bits) (let e : bits ≡ 0 + bits = omega arith in
    e) ∙ (f ∙ let z : x / 2 ^ bits % 2 ^ 0 ≡ 0 = omega arith in z)

all_agree : (bits x : ℕ) → has 0 x ≡ eqb (high bits bits x) 0
all_agree bits x = ap (λ (n : ℕ). eqb n 0) (and_none x) ∙ sym (ap (λ (n : ℕ). eqb n 0) (none_high bits x))
  where
    and_none : (n : ℕ) → bit_and n 0 ≡ 0
    and_none n = let low = and_le_r n 0 in omega (arith, low)

pub narrowed_first : (lanes : List (List ℕ)) (bits size rank : ℕ) (among : List ℕ) →
    AreMasks (has 0) lanes (words_of lanes) among → size ≡ count_of (λ x. has 0 x && has 0 x) lanes (words_of lanes) →
    1 ≤ rank → rank ≤ count_of (has 0) lanes (words_of lanes) → Narrowed lanes bits bits 0 rank size rank among
narrowed_first lanes bits size rank among masks counted some few =
    let words = words_of lanes in
    let twice : (b : Bool) → (b && b) ≡ b = λ b. elim b as (λ v. (v && v) ≡ v) [ true ↦ refl | false ↦ refl ] in
    let one = count_same (λ x. has 0 x && has 0 x) (has 0) lanes words (λ x. twice (has 0 x)) in
    let all = count_same (has 0) (λ x. eqb (high bits bits x) 0) lanes words (all_agree bits) in
    record {
      masks = masks_same (has 0) (λ x. eqb (high bits bits x) 0) lanes words among (all_agree bits) masks;
      counted = counted ∙ (one ∙ all);
      ranked = (let none = count_none (λ x. ltb (high bits bits x) 0) lanes words (λ x. grind (arith, nat_tests)) in
          omega (arith, none));
      some = some;
      few = omega (arith, counted, one, few);
    }

pub narrowed_last : (lanes : List (List ℕ)) (bits value left size rank : ℕ) (among : List ℕ) →
    Narrowed lanes bits 0 value left size rank among → IsRanked lanes bits rank value
narrowed_last lanes bits value left size rank among is =
    let words = words_of lanes in
    let whole : (x : ℕ) → high bits 0 x ≡ x % 2 ^ bits = λ x. omega arith in
    let low = count_same (λ x. ltb (high bits 0 x) value) (λ x. ltb (x % 2 ^ bits) value) lanes words
    (λ x. ap (λ (n : ℕ). ltb n value) (whole x)) in
    let here = count_same (λ x. eqb (high bits 0 x) value) (λ x. eqb (x % 2 ^ bits) value) lanes words
    (λ x. ap (λ (n : ℕ). eqb n value) (whole x)) in
    let sum = count_adds (λ x. leb (x % 2 ^ bits) value) (λ x. ltb (x % 2 ^ bits) value) (λ x. eqb (x % 2 ^ bits) value)
    lanes words (λ x. not_above (x % 2 ^ bits) value) in
    record {
      below = omega (arith, low, is.ranked, is.some);
      upto = omega (arith, low, here, sum, is.ranked, is.counted, is.few);
    }
