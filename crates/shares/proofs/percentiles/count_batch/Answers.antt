use Rattle.std.proofs.Common.{◌≡◌, ◌∙◌, ℕ, length, leb, ap, arith}
use Rattle.std.proofs.lemmas.List.Sums.{count_by-le-length}
use Rattle.std.proofs.lemmas.Simd.{bitmask_splat, ones-mask_l}
use Rattle.std.specs.Int.RustNames.{count_ones}
use mir.Syntax.{w32}
use Rattle.shares.proofs.MinutesCounted.{count_lanes}
use Rattle.shares.proofs.percentiles.count_batch.Goals as goal

pub returns-clause-count : goal.returns-clause-count
returns-clause-count c =
    let batch = c.args.batch in
    let d = c.args.duration in
    let long : length batch ≡ 16 = omega arith in
    ap count_ones (bitmask_splat w32 leb batch 16 d long (omega arith))
    ∙ (ones-mask_l (λ (x : ℕ). leb x d) batch ∙ count_lanes batch d 16 c.requires long)

pub returns-clause-bound : goal.returns-clause-bound
returns-clause-bound c =
    let batch = c.args.batch in
    let d = c.args.duration in
    let long : length batch ≡ 16 = omega arith in
    let same = ap count_ones (bitmask_splat w32 leb batch 16 d long (omega arith))
    ∙ ones-mask_l (λ (x : ℕ). leb x d) batch in
    let few = count_by-le-length (λ (x : ℕ). leb x d) batch in
    omega (arith, same, few, long)
