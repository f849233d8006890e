use Rattle.std.proofs.Common.{◌≡◌, ◌&&◌, ◌∙◌, bit_and, slice_index, ap, arith}
use Rattle.std.specs.Int.RustNames.{count_ones}
use Rattle.std.proofs.lemmas.Nat.{and_le_l, ones-le}
use Rattle.shares.specs.Planes.{block, how_many}
use Rattle.shares.proofs.Masks.{mask_and, ones_mask, count_next}
use Rattle.shares.proofs.planes.count_both.Goals as goal

pub loop-word-preserved : goal.loop-word-preserved
loop-word-preserved c =
    let s = c.loop-word.word in
    let a = slice_index c.args.among.now s in
    let p = slice_index c.args.plane.now s in
    let low = and_le_l a p in
    let few = ones-le 64 (bit_and a p) (let fits = c.type_inv.among in omega (arith, low)) in
    record {
      few = omega (arith, few, c.loop-word.invariant.few);
      count = λ lanes P Q x y.
          let here : count_ones (bit_and a p) ≡ how_many (λ v. P v && Q v) (block lanes s) =
          ap count_ones ((λ i. bit_and (x.each s c.loop-word-test.true i) (y.each s c.loop-word-test.true i))
          ∙ mask_and P Q (block lanes s)) ∙ ones_mask (λ v. P v && Q v) (block lanes s) in
          let more = count_next (λ v. P v && Q v) lanes s in
          omega (arith, here, more, c.loop-word.invariant.count lanes P Q x y);
    }
