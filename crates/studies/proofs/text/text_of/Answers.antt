use Rattle.std.proofs.Common.{◌≡◌, ◌≤◌, ◌<◌, ◌∙◌, ℕ, List, All, ap, inl, length, refl, subst, sym}
use Rattle.std.proofs.lemmas.List.{length-map}
use Rattle.timetable.specs.declared.trips.StopNo.{StopNo}
use Rattle.collector.specs.Places.{MatrixData}
use Rattle.matrix_text.specs.Text.{LabelData, matrix_text}
use Rattle.std.specs.Prelude.{IfOk}
use Rattle.workers.specs.Matrices.{IsMatrix}
use Rattle.workers.specs.Study.{query_of}
use Rattle.studies.specs.declared.fault.StudyFault.{StudyFault}
use Rattle.studies.specs.declared.fault.StudyFault.TheVariants as fault
use Rattle.studies.specs.Inputs.{InputFiles}
use Rattle.studies.specs.Ready.{IsAsked}
use Rattle.studies.specs.Settings.{query_of as asked_of}
use Rattle.studies.specs.Study.{IsStudyText, TellsBy}
use Rattle.studies.specs.Watched.{SawFault}
use Rattle.studies.proofs.ForFiles.{err_for, ok_for}
use Rattle.studies.proofs.WatchSaw.{run_seen, text_seen, told_ok}
use Rattle.studies.proofs.StudyFacts.{err_by, labels_are, means, name_count, network_count, run_told, study_fits}
use Rattle.studies.proofs.StudyFacts.{study_with, text_made, text_told}
use Rattle.studies.proofs.text.text_of.Goals as goal

pub matrix_of-requires-clause-study : goal.matrix_of-requires-clause-study
matrix_of-requires-clause-study g c = λ _ _.
    let (i, ready) = c.requires.asked in
    let s = c.args.asked.now.settings.now in
    let few = subst (λ (stops : List (List ℕ)). length stops ≤ 65535) ready.stops_are c.known.ensures.few_stops in
    let asked = c.asked.ensures ∙ ap (λ (l : List StopNo). asked_of s l) c.as_slice-3.ensures.value in
    study_fits i s c.args.asked.now.tables.now c.args.asked.now.networks.now c.as_slice.result.now
    c.as_slice-2.result.now (query_of c.asked.result) c.requires.settings few ready.tables_are ready.networks_are
    c.as_slice.ensures.value c.as_slice-2.ensures.value asked

pub returns-in_err-matrix-clause-run : goal.returns-in_err-matrix-clause-run
returns-in_err-matrix-clause-run g c =
    let a = c.args.asked.now in
    let s = a.settings.now in
    let asked = c.asked.ensures ∙ ap (λ (l : List StopNo). asked_of s l) c.as_slice-3.ensures.value in
    let decides = g.G.Gate.decides c.args.gate.now in
    let was_told = g.G.Gate.was_told c.args.gate.now in
    let e = c.in_err-matrix.field-0.0 in
    err_by (λ (e : StudyFault). (i : InputFiles) → IsAsked i a → TellsBy decides was_told e i s)
    c.from_residual.result (fault.Run e) c.from_residual.ensures.1
    (λ i ready. inl (run_told decides was_told i s _ e
    (means i s a.tables.now a.networks.now c.as_slice.result.now c.as_slice-2.result.now (query_of c.asked.result)
    ready.tables_are ready.networks_are c.as_slice.ensures.value c.as_slice-2.ensures.value asked)
    c.in_err-matrix.ensures.fault))

pub returns-in_err-matrix-clause-told_fault : goal.returns-in_err-matrix-clause-told_fault
returns-in_err-matrix-clause-told_fault g c =
    let a = c.args.asked.now in
    let s = a.settings.now in
    let asked = c.asked.ensures ∙ ap (λ (l : List StopNo). asked_of s l) c.as_slice-3.ensures.value in
    let saw = g.W.Watch.saw c.args.watch.now in
    let e = c.in_err-matrix.field-0.0 in
    err_by (λ (e : StudyFault). (i : InputFiles) → IsAsked i a → SawFault saw e i s) c.from_residual.result
    (fault.Run e) c.from_residual.ensures.1
    (λ i ready. run_seen saw i s _ e
    (means i s a.tables.now a.networks.now c.as_slice.result.now c.as_slice-2.result.now (query_of c.asked.result)
    ready.tables_are ready.networks_are c.as_slice.ensures.value c.as_slice-2.ensures.value asked)
    c.in_err-matrix.ensures.told_fault)

pub text_of_matrix-requires-clause-scenarios : goal.text_of_matrix-requires-clause-scenarios
text_of_matrix-requires-clause-scenarios g c =
    let (i, ready) = c.requires.asked in
    let a = c.args.asked.now in
    ap (λ (m : MatrixData). m.scenarios) c.as_ref.ensures ∙ c.in_ok-matrix.ensures.shape.scenarios
    ∙ network_count i a.settings.now a.networks.now ready.networks_are ∙ sym (name_count i.scenarios)
    ∙ sym (ap length ready.names_are) ∙ length-map a.names.now (λ name. name.items)

pub text_of_matrix-requires-clause-origins_are : goal.text_of_matrix-requires-clause-origins_are
text_of_matrix-requires-clause-origins_are g c =
    let (i, ready) = c.requires.asked in
    subst (λ (stops : List (List ℕ)). All (λ (o : StopNo). o.0 < length stops) c.args.asked.now.tables.now.origins.items)
    (sym ready.stops_are) ready.tables_are.in_range

pub text_of_matrix-requires-clause-destinations_are : goal.text_of_matrix-requires-clause-destinations_are
text_of_matrix-requires-clause-destinations_are g c =
    let (i, ready) = c.requires.asked in
    subst (λ (stops : List (List ℕ)). All (λ (o : StopNo). o.0 < length stops)
    c.args.asked.now.tables.now.destinations.items) (sym ready.stops_are) ready.tables_are.destinations_in_range

pub returns-clause-text : goal.returns-clause-text
returns-clause-text g c =
    let a = c.args.asked.now in
    let s = a.settings.now in
    let asked = c.asked.ensures ∙ ap (λ (l : List StopNo). asked_of s l) c.as_slice-3.ensures.value in
    let made = subst (λ (m : MatrixData). IsMatrix (study_with (query_of c.asked.result) a.networks.now
    c.as_slice.result.now c.as_slice-2.result.now) m) (sym c.as_ref.ensures) c.in_ok-matrix.ensures.matrix in
    ok_for (λ i. IsAsked i a) (λ i text. IsStudyText i s text.items) c.text_of_matrix.result
    (λ i ready.
    text_made (λ v. v.items) c.text_of_matrix.result i s _ c.as_ref.result.now
    (means i s a.tables.now a.networks.now c.as_slice.result.now c.as_slice-2.result.now (query_of c.asked.result)
    ready.tables_are ready.networks_are c.as_slice.ensures.value c.as_slice-2.ensures.value asked)
    made
    (subst (λ (l : LabelData). IfOk c.text_of_matrix.result (λ v. v.items ≡ matrix_text l c.as_ref.result.now))
    (labels_are ready.names_are ready.tables_are.origins_are refl refl ready.tables_are.destinations_are
    ready.stops_are) c.text_of_matrix.ensures.text))

pub returns-clause-told : goal.returns-clause-told
returns-clause-told g c =
    let a = c.args.asked.now in
    let s = a.settings.now in
    let asked = c.asked.ensures ∙ ap (λ (l : List StopNo). asked_of s l) c.as_slice-3.ensures.value in
    told_ok c.text_of_matrix.result
    (λ i ready. record {
      study = study_with (query_of c.asked.result) a.networks.now c.as_slice.result.now c.as_slice-2.result.now;
      matrix = c.in_ok-matrix.matrix.value;
      means = means i s a.tables.now a.networks.now c.as_slice.result.now c.as_slice-2.result.now
          (query_of c.asked.result) ready.tables_are ready.networks_are c.as_slice.ensures.value
          c.as_slice-2.ensures.value asked;
      is_matrix = c.in_ok-matrix.ensures.matrix;
      told = c.in_ok-matrix.ensures.told;
    })

pub returns-clause-run : goal.returns-clause-run
returns-clause-run g c =
    let a = c.args.asked.now in
    let s = a.settings.now in
    let decides = g.G.Gate.decides c.args.gate.now in
    let was_told = g.G.Gate.was_told c.args.gate.now in
    err_for (λ i. IsAsked i a) (λ i e. TellsBy decides was_told e i s) c.text_of_matrix.result
    (λ i _. text_told i s decides was_told c.text_of_matrix.result c.text_of_matrix.ensures.fault)

pub returns-clause-told_fault : goal.returns-clause-told_fault
returns-clause-told_fault g c =
    let a = c.args.asked.now in
    let s = a.settings.now in
    let saw = g.W.Watch.saw c.args.watch.now in
    err_for (λ i. IsAsked i a) (λ i e. SawFault saw e i s) c.text_of_matrix.result
    (λ i _. text_seen saw i s c.text_of_matrix.result c.text_of_matrix.ensures.fault)
