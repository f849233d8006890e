use Rattle.std.proofs.Common.{◌≡◌, ◌⊎◌, ap, subst}
use Rattle.std.specs.Prelude.{IfErr, IfOk}
use Rattle.work_book.specs.Board.{seen_by}
use Rattle.work_book.specs.declared.rule.View.{View}
use Rattle.workers.specs.Outcomes.{HasSplit, IsFaultOf}
use Rattle.workers.specs.Study.{study_of}
use Rattle.workers.specs.declared.faults.RunFault.TheVariants.{Memory}
use Rattle.studies.specs.Settings.{SettingsData}
use Rattle.studies.proofs.matrix.matrix_on.Goals as goal

pub returns-clause-workers : goal.returns-clause-workers
returns-clause-workers g c =
    let start = seen_by c.args.seat.now in
    let v = seen_by c.run_workers.new.seat in
    subst (λ (x : SettingsData). IfOk c.run_workers.result (λ _. HasSplit x.workers start v)) c.settings.view_is
    c.run_workers.ensures.split

pub returns-clause-workers_fault : goal.returns-clause-workers_fault
returns-clause-workers_fault g c =
    let start = seen_by c.args.seat.now in
    let v = seen_by c.run_workers.new.seat in
    subst (λ (x : SettingsData). IfErr c.run_workers.result (λ e. (e ≡ Memory) ⊎ HasSplit x.workers start v))
    c.settings.view_is c.run_workers.ensures.split_fault

pub returns-clause-fault : goal.returns-clause-fault
returns-clause-fault g c =
    let s = study_of c.args.shared.now.study.now in
    let decides = g.G.Gate.decides c.args.gate.now in
    let was_told = g.G.Gate.was_told c.args.gate.now in
    let board = c.args.shared.now.board.now in
    let start = seen_by c.args.seat.now in
    let v = seen_by c.run_workers.new.seat in
    subst (λ (x : SettingsData). IfErr c.run_workers.result
    (λ e. IsFaultOf s decides was_told board x.workers start v e)) c.settings.view_is c.run_workers.ensures.fault

pub returns-clause-by_gate : goal.returns-clause-by_gate
returns-clause-by_gate g c = c.run_workers.ensures.by_gate (ap (λ (v : View). v.share) c.requires.seat)
