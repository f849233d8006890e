use Rattle.std.proofs.Common.{◌≡◌, ◌<◌, refl, ◌∙◌, arith, length}
use Rattle.std.proofs.lemmas.Simd.{get_or_wider, Each1-from_get_or}
use Rattle.useful_minutes.proofs.LabelsInOrder.{four_from}
use Rattle.useful_minutes.proofs.orders.labels_of.Goals as goal

pub returns : goal.returns
returns c l h =
    let long : length c.args.bytes ≡ 16 = omega arith in
    get_or_wider 256 4 4294967296 4 c.args.bytes l refl
    (Each1-from_get_or (λ x. x < 256) c.args.bytes 0 (λ i k. c.requires i (omega (arith, k, long)))) h
    ∙ four_from c.args.bytes l h long
