use Rattle.std.proofs.Common.{◌≡◌, ◌*◌, ◌+◌, ◌/◌, ◌<◌, ℕ, refl, ap, ◌∙◌, arith, slice_index, length, w8}
use Rattle.std.proofs.lemmas.Simd.{SwzOk-from_below, Each1-from_get_or, get_or-swz_l_below}
use Rattle.useful_minutes.proofs.orders.moved.Goals as goal

pub swizzle : goal.swizzle
swizzle c =
    let long : length c.args.order ≡ 16 = omega arith in
    SwzOk-from_below w8 16 1 16 0 c.args.order refl (omega (arith, long))
    (Each1-from_get_or (λ j. j < 16) c.args.order 0 (λ i h. c.requires i (omega (arith, h, long))))

pub returns : goal.returns
returns c i l =
    let long : length c.args.order ≡ 16 = omega arith in
    let e : 16 * ((0 + i) / 16) + slice_index c.args.order i ≡ slice_index c.args.order i = omega (arith, l) in
    get_or-swz_l_below w8 16 c.args.bytes 0 c.args.order i (omega (arith, l, long)) (c.requires i l)
    ∙ ap (λ (k : ℕ). slice_index c.args.bytes k) e
