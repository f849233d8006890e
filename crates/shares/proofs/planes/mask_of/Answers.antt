use Rattle.std.proofs.Common.{◌≡◌, ◌^◌, ◌∙◌, ℕ, bit_and, eqb, length, map, ap, arith}
use Rattle.std.proofs.lemmas.List.{length-map}
use Rattle.std.proofs.lemmas.Simd.{bitmask_splat, zip2_splat, map-map, mask_l-lt}
use lib.Lanes.{mask_l}
use mir.Syntax.{w32}
use Rattle.shares.specs.Planes.{has}
use Rattle.shares.proofs.planes.mask_of.Goals as goal

pub returns-clause-mask : goal.returns-clause-mask
returns-clause-mask c =
    let batch = c.args.batch in
    let bit = c.args.bit in
    let long : length batch ≡ 16 = omega arith in
    let cut = zip2_splat bit_and batch 16 bit long in
    let cut_long : length (map (λ (x : ℕ). bit_and x bit) batch) ≡ 16 =
    length-map batch (λ (x : ℕ). bit_and x bit) ∙ long in
    rw cut (bitmask_splat w32 eqb (map (λ (x : ℕ). bit_and x bit) batch) 16 bit cut_long (omega arith)
    ∙ ap mask_l (map-map (λ (x : ℕ). eqb x bit) (λ (x : ℕ). bit_and x bit) batch))

pub returns-clause-bound : goal.returns-clause-bound
returns-clause-bound c =
    let batch = c.args.batch in
    let long : length batch ≡ 16 = omega arith in
    let is = returns-clause-mask c in
    let low = mask_l-lt (map (has c.args.bit) batch) in
    let up : 2 ^ length (map (has c.args.bit) batch) ≡ 65536 =
    ap (λ (n : ℕ). 2 ^ n) (length-map batch (has c.args.bit) ∙ long) in
    omega (arith, is, low, up)
