use Rattle.std.proofs.Common.{◌≡◌, ◌<◌, ◌∙◌, inl, inr, bit_and, length, slice_index, arith}
use Rattle.std.specs.Int.Bits.{bit_xor}
use Rattle.std.proofs.lemmas.Bool.{cases_lt}
use Rattle.std.proofs.lemmas.List.{length-set, get_or-set_same, get_or-set_other}
use Rattle.shares.specs.Planes.{block}
use Rattle.shares.proofs.Masks.{block_few, kept_word}
use Rattle.shares.proofs.planes.keep.Goals as goal

pub loop-word-preserved : goal.loop-word-preserved
loop-word-preserved c =
    let s = c.loop-word.word in
    let among = c.loop-word.among in
    let old = c.loop-word.invariant in
    let side = c.if-with.side in
    let v = bit_and (slice_index among s) (bit_xor (slice_index c.args.plane.now s) side) in
    let room : s < length among = omega (arith, old.long, c.requires, c.loop-word-test.true) in
    record {
      long = length-set among s v ∙ old.long;
      side = old.side;
      kept = λ lanes P Q rows a p w l. elim (cases_lt w s) [
        | inl lt ↦ get_or-set_other among s w v 0 (λ e. omega (arith, e, lt)) ∙ old.kept lanes P Q rows a p w lt
        | inr ge ↦
            let e : w ≡ s = omega (arith, l, ge) in
            let here = old.rest s (omega arith) ∙ a.each s c.loop-word-test.true in
            let there = p.each s c.loop-word-test.true in
            rw e (get_or-set_same among s v 0 room ∙ ((λ i. bit_and (here i) (bit_xor (there i) side))
            ∙ kept_word c.args.with P Q (block lanes s) side (block_few lanes s rows) old.side))
      ];
      rest = λ w l. get_or-set_other among s w v 0 (λ e. omega (arith, e, l)) ∙ old.rest w (omega (arith, l));
    }

pub returns : goal.returns
returns c lanes P Q rows a p = record {
  each = λ w l. c.loop-word.invariant.kept lanes P Q rows a p w (omega (
    arith,
    l,
    c.loop-word-test.false,
  ));
}
