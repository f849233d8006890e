use Rattle.std.proofs.Common.{◌≡◌, ◌*◌, ◌+◌, ◌<◌, ◌/◌, ◌%◌, ◌^◌, ℕ, inl, inr, ap, ◌∙◌, arith, slice_index}
use Rattle.useful_minutes.proofs.EightsInOrder.{whole_of_two}
use Rattle.useful_minutes.proofs.eights.eight_in_order.Goals as goal

pub eight_of_bytes-requires : goal.eight_of_bytes-requires
eight_of_bytes-requires c i l = elim (c.requires.order i l) [
  | inl low ↦
      let j = slice_index c.args.order i in
      let e : 2 * (j / 2) + j % 2 ≡ j = omega arith in
      let same = ap (λ (x : ℕ). slice_index c.bytes_of_eight.result x) e in
      let byte = c.bytes_of_eight.ensures (j / 2) (j % 2) (omega (arith, low)) (omega arith) in
      let small : slice_index c.args.labels (j / 2) / 256 ^ (j % 2) % 256 < 256 = omega arith in
      let here = c.moved_or_none.ensures.moved i l low in
      omega (arith, same, byte, small, here)
  | inr e ↦ let here = c.moved_or_none.ensures.none i l e in omega (arith, here)
]

pub returns-clause-takes : goal.returns-clause-takes
returns-clause-takes c l k lt kt takes =
    let byte = λ (b : ℕ) (bt : b < 2). c.moved_or_none.ensures.moved (2 * l + b) (omega (arith, lt, bt))
    (omega (arith, takes b bt, kt, bt))
    ∙ (ap (λ (i : ℕ). slice_index c.bytes_of_eight.result i) (takes b bt) ∙ c.bytes_of_eight.ensures k b kt bt) in
    let a : slice_index c.moved_or_none.result (2 * l + 0) ≡ slice_index c.args.labels k / 1 % 256 =
    byte 0 (omega arith) in
    let b : slice_index c.moved_or_none.result (2 * l + 1) ≡ slice_index c.args.labels k / 256 % 256 =
    byte 1 (omega arith) in
    let fits : slice_index c.args.labels k < 65536 = c.requires.labels k kt in
    let first : 2 * l + 0 ≡ 2 * l = omega arith in
    let zero = ap (λ (i : ℕ). slice_index c.moved_or_none.result i) first in
    c.eight_of_bytes.ensures.bytes l lt ∙ omega (arith, zero, a, b, whole_of_two (slice_index c.args.labels k) fits)

pub returns-clause-none : goal.returns-clause-none
returns-clause-none c l lt none =
    let byte = λ (b : ℕ) (bt : b < 2).
    c.moved_or_none.ensures.none (2 * l + b) (omega (arith, lt, bt)) (none b bt) in
    let first : 2 * l + 0 ≡ 2 * l = omega arith in
    let zero = ap (λ (i : ℕ). slice_index c.moved_or_none.result i) first in
    c.eight_of_bytes.ensures.bytes l lt ∙ omega (arith, zero, byte 0 (omega arith), byte 1 (omega arith))
