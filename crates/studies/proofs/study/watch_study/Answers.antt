use Rattle.studies.specs.Inputs.{inputs_of}
use Rattle.studies.specs.Ready.{IsReady}
use Rattle.studies.specs.Study.{IsStudyText, TellsBy}
use Rattle.studies.specs.Watched.{SawAll, SawFault}
use Rattle.studies.specs.declared.fault.StudyFault.{StudyFault}
use Rattle.studies.proofs.AnyGate.{any_gates, by_gate}
use Rattle.studies.proofs.ForFiles.{err_at, ok_at}
use Rattle.studies.proofs.WatchSaw.{no_run_seen}
use Rattle.studies.proofs.StudyFacts.{err_by}
use Rattle.studies.proofs.study.watch_study.Goals as goal

pub returns-in_err-study-clause-run : goal.returns-in_err-study-clause-run
returns-in_err-study-clause-run g c =
    let i = inputs_of c.args.inputs.now in
    let s = c.args.settings.now in
    let decides = g.G.Gate.decides c.args.gate.now in
    let was_told = g.G.Gate.was_told c.args.gate.now in
    let e = c.in_err-study.field-0.0 in
    err_by (λ (e : StudyFault). TellsBy decides was_told e i s) c.from_residual.result e c.from_residual.ensures.1
    (by_gate decides was_told i s e c.in_err-study.ensures.no_run c.in_err-study.ensures.fault)

pub returns-in_err-study-clause-told_fault : goal.returns-in_err-study-clause-told_fault
returns-in_err-study-clause-told_fault g c =
    let i = inputs_of c.args.inputs.now in
    let s = c.args.settings.now in
    let saw = g.W.Watch.saw c.args.watch.now in
    let e = c.in_err-study.field-0.0 in
    err_by (λ (e : StudyFault). SawFault saw e i s) c.from_residual.result e c.from_residual.ensures.1
    (no_run_seen saw i s e c.in_err-study.ensures.no_run)

pub returns-in_err-study-clause-fault : goal.returns-in_err-study-clause-fault
returns-in_err-study-clause-fault g c =
    any_gates (g.G.Gate.decides c.args.gate.now) (g.G.Gate.was_told c.args.gate.now) (inputs_of c.args.inputs.now)
    c.args.settings.now c.from_residual.result (returns-in_err-study-clause-run g c)

pub compute_study-requires-clause-ready : goal.compute_study-requires-clause-ready
compute_study-requires-clause-ready g c κs within = (inputs_of c.args.inputs.now, c.in_ok-study.ensures.ready)

pub returns-clause-text : goal.returns-clause-text
returns-clause-text g c =
    let s = c.args.settings.now in
    ok_at (λ i. IsReady i s c.in_ok-study.study) (λ i text. IsStudyText i s text.items) c.compute_study.result
    (inputs_of c.args.inputs.now) c.in_ok-study.ensures.ready c.compute_study.ensures.text

pub returns-clause-told : goal.returns-clause-told
returns-clause-told g c =
    let s = c.args.settings.now in
    let saw = g.W.Watch.saw c.args.watch.now in
    ok_at (λ i. IsReady i s c.in_ok-study.study) (λ i _. SawAll saw i s) c.compute_study.result
    (inputs_of c.args.inputs.now) c.in_ok-study.ensures.ready c.compute_study.ensures.told

pub returns-clause-told_fault : goal.returns-clause-told_fault
returns-clause-told_fault g c =
    let s = c.args.settings.now in
    let saw = g.W.Watch.saw c.args.watch.now in
    err_at (λ i. IsReady i s c.in_ok-study.study) (λ i e. SawFault saw e i s) c.compute_study.result
    (inputs_of c.args.inputs.now) c.in_ok-study.ensures.ready c.compute_study.ensures.told_fault

pub returns-clause-run : goal.returns-clause-run
returns-clause-run g c =
    let s = c.args.settings.now in
    let decides = g.G.Gate.decides c.args.gate.now in
    let was_told = g.G.Gate.was_told c.args.gate.now in
    err_at (λ i. IsReady i s c.in_ok-study.study) (λ i e. TellsBy decides was_told e i s) c.compute_study.result
    (inputs_of c.args.inputs.now) c.in_ok-study.ensures.ready c.compute_study.ensures.run

pub returns-clause-fault : goal.returns-clause-fault
returns-clause-fault g c =
    any_gates (g.G.Gate.decides c.args.gate.now) (g.G.Gate.was_told c.args.gate.now) (inputs_of c.args.inputs.now)
    c.args.settings.now c.compute_study.result (returns-clause-run g c)
