use Rattle.std.proofs.Common.{◌≡◌, ◌+◌, ◌*◌, ◌<◌, ℕ, refl, ◌∙◌, arith, length}
use Rattle.std.proofs.lemmas.Simd.{get_or_wider, Each1-from_get_or}
use Rattle.useful_minutes.proofs.EightsInOrder.{two_from}
use Rattle.useful_minutes.proofs.eights.eight_of_bytes.Goals as goal

pub returns : goal.returns
returns c =
    let long : length c.args.bytes ≡ 16 = omega arith in
    let made = λ (l : ℕ) (h : l < 8). get_or_wider 256 2 65536 8 c.args.bytes l refl
    (Each1-from_get_or (λ x. x < 256) c.args.bytes 0 (λ i k. c.requires i (omega (arith, k, long)))) h
    ∙ two_from c.args.bytes l h long in
    record {
      bytes = made;
      small = λ l h.
          let low = c.requires (2 * l) (omega (arith, h)) in
          let high = c.requires (2 * l + 1) (omega (arith, h)) in
          omega (arith, made l h, low, high);
    }
