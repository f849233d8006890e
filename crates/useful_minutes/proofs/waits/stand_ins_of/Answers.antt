use Rattle.std.proofs.Common.{◌≡◌, ◌*◌, ◌+◌, ◌-◌, ◌<◌, ℕ, inl, inr, ap, ◌∙◌, sym, arith, slice_index}
use Rattle.std.proofs.lemmas.Bool.{cases_lt}
use Rattle.useful_minutes.proofs.waits.stand_ins_of.Goals as goal

pub loop-part-preserved : goal.loop-part-preserved
loop-part-preserved c =
    let old = c.loop-part.invariant in
    let put = c.put_four.ensures in
    let part = c.loop-part.part in
    let near = c.args.near.now in
    let positions = c.args.positions.now in
    record {
      size = put.same ∙ old.size;
      done = λ k l. elim (cases_lt k (4 * part)) [
        | inl lt ↦ put.kept k (inl lt) ∙ old.done k lt
        | inr ge ↦
            let j : ℕ = k - 4 * part in
            let lane : j < 4 = omega (arith, ge, l) in
            let here : 4 * part + j ≡ k = omega (arith, ge) in
            let there : 4 * (4 * c.args.chunk + part) + j ≡ 16 * c.args.chunk + k = omega (arith, ge) in
            ap (λ (i : ℕ). slice_index c.put_four.new.labels i) (sym here)
            ∙ (put.put j lane ∙ (c.four_of.ensures j lane
            ∙ ap (λ (i : ℕ). slice_index near (slice_index positions i)) there))
      ];
    }
