use Rattle.std.proofs.Common.{◌≡◌, ◌≢◌, ◌≤◌, ◌+◌, ℕ, Bool, cond, eqb, inl, inr, ap, subst, sym, ◌∙◌, arith}
use Rattle.std.proofs.lemmas.Bool.{cases_lt, cases_eq, eq-eqb, ne_eqb}
use Rattle.label_cells.specs.SplitRuns.{whole_at, reached_at}
use Rattle.label_cells.proofs.SplitRunsInOneLane.{spans_there}
use Rattle.label_cells.proofs.split_runs.top.Goals as goal

few_end : (whole reached : ℕ) → whole ≤ 1092 → reached ≤ 1440 → cond (eqb reached 0) 0 (whole + reached) ≤ 2532
few_end whole reached w v = elim (cases_eq reached 0) [
  | inl e ↦ subst (λ (b : Bool). cond b 0 (whole + reached) ≤ 2532) (sym (eq-eqb reached 0 e)) (omega arith)
  | inr ne ↦ subst (λ (b : Bool). cond b 0 (whole + reached) ≤ 2532) (sym (ne_eqb reached 0 ne)) (omega (arith, w, v))
]

pub end_of-end-requires : goal.end_of-end-requires
end_of-end-requires c l h =
    let i = c.loop-row.row-index in
    let w = c.requires.wholes l i h c.loop-row-test.true in
    let v = spans_there c.args.rows.now l i c.requires h c.loop-row-test.true in
    omega (arith, w, v)

pub loop-row-preserved : goal.loop-row-preserved
loop-row-preserved c =
    let rows = c.args.rows.now in
    let n = c.loop-row.row-index in
    let higher = c.higher_of-higher.result in
    record {
      few = λ l h.
          let w = c.requires.wholes l n h c.loop-row-test.true in
          let v = spans_there rows l n c.requires h c.loop-row-test.true in
          let end = c.end_of-end.ensures l h in
          let few = few_end (whole_at rows l n) (reached_at rows l n) w v in
          let is = c.higher_of-higher.ensures l h in
          let before = c.loop-row.invariant.few l h in
          omega (arith, end, few, is, before);
      top = λ l i h less ne.
          let is = c.higher_of-higher.ensures l h in
          elim (cases_lt i n) [
            | inl lt ↦ let before = c.loop-row.invariant.top l i h lt ne in omega (arith, before, is)
            | inr ge ↦
                let e : i ≡ n = omega (arith, less, ge) in
                let there : reached_at rows l n ≢ 0 = subst (λ (k : ℕ). reached_at rows l k ≢ 0) e ne in
                let end = c.end_of-end.ensures l h
                ∙ ap (λ (b : Bool). cond b 0 (whole_at rows l n + reached_at rows l n)) (ne_eqb (reached_at rows l n)
                0 there) in
                let w = ap (λ (k : ℕ). whole_at rows l k) e in
                let v = ap (λ (k : ℕ). reached_at rows l k) e in
                omega (arith, end, is, w, v)
          ];
    }
