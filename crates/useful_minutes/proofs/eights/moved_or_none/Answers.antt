use Rattle.std.proofs.Common.{◌≡◌, ◌*◌, ◌+◌, ◌/◌, ℕ, refl, ap, ◌∙◌, arith, slice_index, length, cond, ltb, w8}
use Rattle.std.proofs.lemmas.Simd.{SwzOk-from_Each1, Each1-from_get_or, get_or-swz_l, get_or-swz_l_below}
use Rattle.useful_minutes.proofs.EightsInOrder.{is_place}
use Rattle.useful_minutes.proofs.eights.moved_or_none.Goals as goal
use lib.Dec.{T}
use mathlib.Core.Bool.{◌||◌}
use mir.Val.{zeroes}

pub swizzle : goal.swizzle
swizzle c =
    let long : length c.args.order ≡ 16 = omega arith in
    SwzOk-from_Each1 w8 16 1 16 0 c.args.order refl (omega (arith, long))
    (Each1-from_get_or (λ j. T (zeroes 16 w8 j || ltb j 16)) c.args.order 0
    (λ i h. is_place (slice_index c.args.order i) (c.requires i (omega (arith, h, long)))))

pub returns-clause-moved : goal.returns-clause-moved
returns-clause-moved c i l low =
    let long : length c.args.order ≡ 16 = omega arith in
    let e : 16 * ((0 + i) / 16) + slice_index c.args.order i ≡ slice_index c.args.order i = omega (arith, l) in
    get_or-swz_l_below w8 16 c.args.bytes 0 c.args.order i (omega (arith, l, long)) low
    ∙ ap (λ (k : ℕ). slice_index c.args.bytes k) e

pub returns-clause-none : goal.returns-clause-none
returns-clause-none c i l e =
    let long : length c.args.order ≡ 16 = omega arith in
    get_or-swz_l w8 16 c.args.bytes 0 c.args.order i (omega (arith, l, long))
    ∙ ap (λ (j : ℕ). cond (zeroes 16 w8 j) 0 (slice_index c.args.bytes (16 * ((0 + i) / 16) + j))) e
