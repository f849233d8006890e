use Rattle.std.proofs.Common.{◌≡◌, ◌<◌, refl, arith, length}
use Rattle.std.proofs.lemmas.Simd.{get_or_narrower, Each1-from_get_or}
use Rattle.useful_minutes.proofs.eights.bytes_of_eight.Goals as goal

pub returns : goal.returns
returns c k b kt bt =
    let long : length c.args.labels ≡ 8 = omega arith in
    get_or_narrower 65536 2 256 16 c.args.labels k b refl
    (Each1-from_get_or (λ x. x < 65536) c.args.labels 0 (λ i h. c.requires i (omega (arith, h, long)))) bt
    (omega (arith, kt, bt))
