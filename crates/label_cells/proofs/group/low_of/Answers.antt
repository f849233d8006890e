use Rattle.std.proofs.Common.{◌≡◌, ℕ, inl, inr, ap, arith}
use Rattle.std.proofs.lemmas.Bool.{cases_lt}
use Rattle.std.proofs.lemmas.Simd.{get_or-replicate}
use Rattle.label_cells.specs.GroupLanes.{shortest_at}
use Rattle.label_cells.proofs.group.low_of.Goals as goal

pub loop-run-init : goal.loop-run-init
loop-run-init c = record {
  fits = λ l h. let e = get_or-replicate {A = ℕ} 16 l 65535 0 h in omega (arith, e);
  low = λ l i h less. absurd (omega (arith, less));
}

pub loop-run-preserved : goal.loop-run-preserved
loop-run-preserved c = record {
  fits = λ l h. let is = c.lower_of-lower.ensures l h in let old = c.loop-run.invariant.fits l h in omega (
    arith,
    is,
    old,
  );
  low = λ l i h less.
      let n = c.loop-run.run-index in
      let is = c.lower_of-lower.ensures l h in
      elim (cases_lt i n) [
        | inl lt ↦ let old = c.loop-run.invariant.low l i h lt in omega (arith, is, old)
        | inr ge ↦
            let e = ap (λ (k : ℕ). shortest_at c.args.runs.now l k) (let e : i ≡ n = omega (arith, less, ge) in e) in
            omega (arith, is, e)
      ];
}

pub returns-clause-low : goal.returns-clause-low
returns-clause-low c l i h less =
    let is = c.minutes_of.ensures l h in
    let low = c.loop-run.invariant.low l i h (omega (arith, less, c.loop-run-test.false)) in
    omega (arith, is, low)

pub returns-clause-few : goal.returns-clause-few
returns-clause-few c l h =
    let is = c.minutes_of.ensures l h in
    let fits = c.loop-run.invariant.fits l h in
    omega (arith, is, fits)
