use Rattle.std.proofs.Common.{◌≡◌, ◌-◌, ◌∙◌, arith, sym, false}
use Rattle.std.proofs.lemmas.Bool.{ne_eqb}
use Rattle.table_records.proofs.Trims.{shorter_by_space, ends_here}
use Rattle.table_records.proofs.fields.trim_back.Goals as goal
use Rattle.table_records.proofs.fields.trim_back.Goals.{then-loop-end-test+else-text-end-eq32, else-loop-end-test}

pub loop-end-preserved : goal.loop-end-preserved
loop-end-preserved c = (
  shorter_by_space c.loop-end.end (c.loop-end.end - 1) c.args.text.now (omega arith) c.loop-end.invariant.1
      c.if-text-end-eq32.true ∙ c.loop-end.invariant.0,
  omega arith,
)

pub returns : goal.returns
returns c =
    elim c.loop-end-test.branch [
      | then-loop-end-test+else-text-end-eq32 w ↦
          sym (ends_here c.loop-end.end (c.loop-end.end - 1) c.args.text.now (omega arith) c.loop-end.invariant.1
          (ne_eqb _ _ w.if-text-end-eq32.false)) ∙ c.loop-end.invariant.0
      | else-loop-end-test w ↦
          let none : c.loop-end.end ≡ 0 = omega arith in
          rw none (rw none at c.loop-end.invariant.0)
    ]
