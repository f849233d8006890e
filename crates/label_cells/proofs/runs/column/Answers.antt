use Rattle.std.proofs.Common.{◌≡◌, ◌+◌, ◌*◌, ℕ, length, slice_index, inl, inr, subst, ◌∙◌, arith}
use Rattle.std.proofs.Math.ListN.{set}
use Rattle.std.proofs.lemmas.Bool.{cases_lt}
use Rattle.std.proofs.lemmas.List.{length-set, get_or-set_same, get_or-set_other}
use Rattle.label_cells.proofs.runs.column.Goals as goal

pub loop-l-preserved : goal.loop-l-preserved
loop-l-preserved c =
    let labels = c.loop-l.labels in
    let n = c.loop-l.l in
    let found = c.args.found.now in
    let x = slice_index found (c.args.from + n * c.args.width + c.args.j) in
    let long : length labels ≡ 16 = c.loop-l.invariant.long in
    record {
      long = length-set labels n x ∙ long;
      labels = λ k less. elim (cases_lt k n) [
        | inl lt ↦ get_or-set_other labels n k x 0 (λ e. omega (arith, e, lt)) ∙ c.loop-l.invariant.labels k lt
        | inr ge ↦
            let e : n ≡ k = omega (arith, less, ge) in
            subst (λ (i : ℕ). slice_index (set labels n x) i ≡ slice_index found (c.args.from + i * c.args.width +
            c.args.j)) e
            (get_or-set_same labels n x 0 (omega (arith, long, c.loop-l-test.true)))
      ];
    }
