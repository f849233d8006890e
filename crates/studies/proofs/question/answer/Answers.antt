use Rattle.std.proofs.Common.{ℕ, List, Vec, ap, map, refl, subst}
use Rattle.std.specs.declared.alloc.Global.{Global}
use Rattle.studies.specs.declared.fault.StudyFault.{StudyFault}
use Rattle.studies.specs.Answers.{asked_files}
use Rattle.studies.specs.Inputs.{InputFiles, inputs_of}
use Rattle.studies.specs.Stages.{TellsTables}
use Rattle.studies.specs.Study.{IsStudyText, Tells, TellsBy}
use Rattle.studies.proofs.AnyGate.{any_gates, by_gate, tables_no_run}
use Rattle.studies.proofs.ForFiles.{err_at, ok_at}
use Rattle.studies.proofs.QuestionOfKept.{question_ready, question_told}
use Rattle.studies.proofs.StudyFacts.{err_by, ready_with}
use Rattle.studies.proofs.question.answer.Goals as goal

pub returns-in_err-tables-clause-fault : goal.returns-in_err-tables-clause-fault
returns-in_err-tables-clause-fault g c =
    let k = c.args.kept.now in
    let q = c.args.question.now in
    let feed = c.as_ref-feed.result.now in
    let e = c.in_err-tables.field-0.0 in
    err_by (λ (e : StudyFault). Tells e (asked_files (inputs_of k.inputs) q) q.settings.now) c.from_residual.result e
    c.from_residual.ensures.1
    (question_told k q c.requires.kept c.requires.question e feed c.as_ref-feed.ensures
    (subst (λ (i : InputFiles). TellsTables e i feed) c.inputs_with-inputs.ensures c.in_err-tables.ensures.fault))

pub returns-in_err-tables-clause-run : goal.returns-in_err-tables-clause-run
returns-in_err-tables-clause-run g c =
    let k = c.args.kept.now in
    let q = c.args.question.now in
    let i = asked_files (inputs_of k.inputs) q in
    let decides = g.G.Gate.decides c.args.gate.now in
    let was_told = g.G.Gate.was_told c.args.gate.now in
    let feed = c.as_ref-feed.result.now in
    let e = c.in_err-tables.field-0.0 in
    let told = subst (λ (i : InputFiles). TellsTables e i feed) c.inputs_with-inputs.ensures
    c.in_err-tables.ensures.fault in
    err_by (λ (e : StudyFault). TellsBy decides was_told e i q.settings.now) c.from_residual.result e
    c.from_residual.ensures.1
    (by_gate decides was_told i q.settings.now e (tables_no_run e i feed told)
    (question_told k q c.requires.kept c.requires.question e feed c.as_ref-feed.ensures told))

pub text_of-requires-clause-asked : goal.text_of-requires-clause-asked
text_of-requires-clause-asked g c κs within =
    let k = c.args.kept.now in
    let q = c.args.question.now in
    let files = asked_files (inputs_of k.inputs) q in
    let ready = question_ready k q c.requires.kept c.requires.question c.as_ref-feed.result.now c.as_ref-feed.ensures
    c.inputs_with-inputs.ensures c.in_ok-tables.ensures.good c.in_ok-names.ensures c.in_ok-tables.ensures.tables in (
      files,
      ready_with files q.settings.now refl
          (ap (λ (l : List (Vec ℕ Global)). map (λ name. name.items) l) c.as_slice-2.ensures.value) c.as_ref.ensures
          c.as_slice.ensures.value ready,
    )

pub returns-clause-text : goal.returns-clause-text
returns-clause-text g c =
    let k = c.args.kept.now in
    let q = c.args.question.now in
    let files = asked_files (inputs_of k.inputs) q in
    let ready = question_ready k q c.requires.kept c.requires.question c.as_ref-feed.result.now c.as_ref-feed.ensures
    c.inputs_with-inputs.ensures c.in_ok-tables.ensures.good c.in_ok-names.ensures c.in_ok-tables.ensures.tables in
    ok_at _ (λ i text. IsStudyText i q.settings.now text.items) c.text_of.result files (ready_with files q.settings.now refl
    (ap (λ (l : List (Vec ℕ Global)). map (λ name. name.items) l) c.as_slice-2.ensures.value) c.as_ref.ensures
    c.as_slice.ensures.value ready)
    c.text_of.ensures.text

pub returns-clause-run : goal.returns-clause-run
returns-clause-run g c =
    let k = c.args.kept.now in
    let q = c.args.question.now in
    let files = asked_files (inputs_of k.inputs) q in
    let decides = g.G.Gate.decides c.args.gate.now in
    let was_told = g.G.Gate.was_told c.args.gate.now in
    let ready = question_ready k q c.requires.kept c.requires.question c.as_ref-feed.result.now c.as_ref-feed.ensures
    c.inputs_with-inputs.ensures c.in_ok-tables.ensures.good c.in_ok-names.ensures c.in_ok-tables.ensures.tables in
    err_at _ (λ i e. TellsBy decides was_told e i q.settings.now) c.text_of.result files (ready_with files q.settings.now refl
    (ap (λ (l : List (Vec ℕ Global)). map (λ name. name.items) l) c.as_slice-2.ensures.value) c.as_ref.ensures
    c.as_slice.ensures.value ready)
    c.text_of.ensures.run

pub returns-clause-fault : goal.returns-clause-fault
returns-clause-fault g c =
    let q = c.args.question.now in
    any_gates (g.G.Gate.decides c.args.gate.now) (g.G.Gate.was_told c.args.gate.now)
    (asked_files (inputs_of c.args.kept.now.inputs) q) q.settings.now c.text_of.result (returns-clause-run g c)
