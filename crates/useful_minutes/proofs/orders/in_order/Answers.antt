use Rattle.std.proofs.Common.{◌≡◌, ◌*◌, ◌+◌, ◌<◌, ◌/◌, ◌%◌, ◌^◌, ℕ, ap, ◌∙◌, arith, slice_index}
use Rattle.useful_minutes.proofs.LabelsInOrder.{whole}
use Rattle.useful_minutes.proofs.orders.in_order.Goals as goal

pub labels_of-requires : goal.labels_of-requires
labels_of-requires c i l =
    let j = slice_index c.args.order i in
    let low : j < 16 = c.requires.order i l in
    let e : 4 * (j / 4) + j % 4 ≡ j = omega arith in
    let same = ap (λ (x : ℕ). slice_index c.bytes_of.result x) e in
    let byte = c.bytes_of.ensures (j / 4) (j % 4) (omega (arith, low)) (omega arith) in
    let small : slice_index c.args.labels (j / 4) / 256 ^ (j % 4) % 256 < 256 = omega arith in
    let here = c.moved.ensures i l in
    omega (arith, same, byte, small, here)

pub returns : goal.returns
returns c l k lt kt takes =
    let byte = λ (b : ℕ) (bt : b < 4). c.moved.ensures (4 * l + b) (omega (arith, lt, bt))
    ∙ (ap (λ (i : ℕ). slice_index c.bytes_of.result i) (takes b bt) ∙ c.bytes_of.ensures k b kt bt) in
    let a : slice_index c.moved.result (4 * l + 0) ≡ slice_index c.args.labels k / 1 % 256 = byte 0 (omega arith) in
    let b : slice_index c.moved.result (4 * l + 1) ≡ slice_index c.args.labels k / 256 % 256 = byte 1 (omega arith) in
    let d : slice_index c.moved.result (4 * l + 2) ≡ slice_index c.args.labels k / 65536 % 256 =
    byte 2 (omega arith) in
    let e : slice_index c.moved.result (4 * l + 3) ≡ slice_index c.args.labels k / 16777216 % 256 =
    byte 3 (omega arith) in
    let fits : slice_index c.args.labels k < 4294967296 = c.requires.labels k kt in
    let first : 4 * l + 0 ≡ 4 * l = omega arith in
    let zero = ap (λ (i : ℕ). slice_index c.moved.result i) first in
    c.labels_of.ensures l lt ∙ omega (arith, zero, a, b, d, e, whole (slice_index c.args.labels k) fits)
