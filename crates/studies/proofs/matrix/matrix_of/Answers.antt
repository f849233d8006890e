use Rattle.std.proofs.Common.{Result, subst}
use Rattle.std.specs.Prelude.{IfErr}
use Rattle.collector.specs.Places.{MatrixData}
use Rattle.work_book.specs.Board.{seen_by}
use Rattle.work_book.specs.declared.rule.View.{View}
use Rattle.workers.specs.Outcomes.{IsFaultOf, IsFaultOfNew}
use Rattle.workers.specs.Study.{study_of}
use Rattle.workers.specs.declared.faults.RunFault.{RunFault}
use Rattle.studies.proofs.StudyFacts.{err_by, run_fault}
use Rattle.studies.proofs.matrix.matrix_of.Goals as goal

pub returns-in_err-matrix-clause-fault : goal.returns-in_err-matrix-clause-fault
returns-in_err-matrix-clause-fault g c =
    let r = c.matrix_on-matrix.result in
    let s = study_of c.args.study.now in
    let settings = c.args.settings.now in
    let decides = g.G.Gate.decides c.args.gate.now in
    let was_told = g.G.Gate.was_told c.args.gate.now in
    let board = c.in_ok-board.board in
    let v = seen_by c.matrix_on-matrix.new.seat in
    let fits : RunFault → Type 0 = λ e. IsFaultOfNew s decides was_told settings.workers settings.tries e in
    let told : IfErr r fits = run_fault r s decides was_told board v settings.workers settings.tries
    c.in_ok-board.ensures.jobs c.in_ok-board.ensures.tries
    (subst (λ (z : View). IfErr r (λ e. IsFaultOf s decides was_told board settings.workers z v e))
    c.in_ok-board.ensures.seat c.matrix_on-matrix.ensures.fault) c.matrix_on-matrix.ensures.by_gate in
    err_by fits c.from_residual-in_err-matrix.result c.in_err-matrix.field-0.0 c.from_residual-in_err-matrix.ensures.1
    (subst (λ (x : Result MatrixData RunFault). IfErr x fits) c.in_err-matrix.was told)
