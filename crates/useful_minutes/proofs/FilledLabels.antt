-- Labels that are written one after another, in arrays and in the chunks of stops.
use Rattle.std.proofs.Common.{◌≡◌, ◌≢◌, ℕ, ◌+◌, ◌*◌, ◌/◌, ◌%◌, ◌<◌, ◌≤◌, ◌⊎◌, inl, inr, arith}
use Rattle.std.proofs.Math.Nat.{mul-le-mul_right}
use Rattle.std.proofs.lemmas.Bool.{cases_lt, cases_eq}

-- the position of a chunk lies before those of the next stop
pub position_before : (w p q m : ℕ) → p < q → m < w → p * w + m < q * w
position_before w p q m l k =
    let next : (p + 1) * w ≤ q * w = mul-le-mul_right w (omega arith) in
    omega (arith, next)

-- a position is of one stop
pub one_stop : (w p q m k : ℕ) → m < w → k < w → p * w + m ≡ q * w + k → p ≡ q
one_stop w p q m k l r e = elim (cases_lt p q) [
  | inl below ↦ let x = position_before w p q m below l in absurd (omega arith)
  | inr above ↦ elim (cases_lt q p) [
    | inl below ↦ let x = position_before w q p k below r in absurd (omega arith)
    | inr same ↦ omega arith
  ]
]

-- the chunks of a stop lie within those of all
pub chunks_within : (w p stops : ℕ) → p < stops → p * w + w ≤ stops * w
chunks_within w p stops l =
    let next : (p + 1) * w ≤ stops * w = mul-le-mul_right w (omega arith) in
    omega (arith, next)

pub next_chunks : (w p : ℕ) → (p + 1) * w ≡ p * w + w
next_chunks w p = grind arith

-- two lanes differ in their chunk or in their place in it
pub lanes_differ : (w p q m k : ℕ) → m < 16 * w → k < 16 * w → (p ≢ q) ⊎ (k ≢ m) →
    (p * w + k / 16 ≢ q * w + m / 16) ⊎ (k % 16 ≢ m % 16)
lanes_differ w p q m k l r apart = elim (cases_eq (k % 16) (m % 16)) [
  | inr ne ↦ inr ne
  | inl lane ↦ inl (λ e.
      let stop = one_stop w p q (k / 16) (m / 16) (omega (arith, r)) (omega (arith, l)) e in
      elim apart [
        | inl other ↦ other stop
        | inr minute ↦
            let same : p * w + k / 16 ≡ p * w + m / 16 = rw (← stop) at e in
            minute (omega (arith, same, lane))
      ])
]
