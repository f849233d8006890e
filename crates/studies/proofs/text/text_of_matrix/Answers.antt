use Rattle.std.proofs.Common.{◌<◌, ◌++◌, ◌∙◌, ℕ, List, All, ap, length, map, refl, subst, sym}
use Rattle.std.proofs.lemmas.List.{length-map}
use Rattle.timetable.specs.declared.trips.StopNo.{StopNo}
use Rattle.matrix_text.specs.Text.{LabelData, matrix_text}
use Rattle.studies.specs.Settings.{SettingsData}
use Rattle.studies.proofs.StudyFacts.{labels_are, labels_with}
use Rattle.studies.proofs.text.text_of_matrix.Goals as goal

pub write_matrix-requires : goal.write_matrix-requires
write_matrix-requires c =
    let stops = length c.args.asked.now.feed.now.stops in
    record {
      scenarios = length-map c.args.asked.now.names.now (λ name. name.items) ∙ sym c.requires.scenarios;
      origins = ap (λ (l : List StopNo). length l) c.as_slice.ensures.value ∙ sym c.requires.origins;
      origins_are = subst (λ (l : List StopNo). All (λ (o : StopNo). o.0 < stops) l) (sym c.as_slice.ensures.value)
          c.requires.origins_are;
      shares = ap (λ (l : List ℕ). length l) (c.as_slice-2.ensures.value
          ∙ ap (λ (s : SettingsData). s.shares) c.settings.view_is) ∙ sym c.requires.shares;
      limits = ap (λ (l : List ℕ). length l) (c.as_slice-3.ensures.value
          ∙ ap (λ (s : SettingsData). s.withins) c.settings.view_is) ∙ sym c.requires.limits;
      destinations_are = subst (λ (l : List StopNo). All (λ (o : StopNo). o.0 < stops) l)
          (sym c.as_slice-4.ensures.value) c.requires.destinations_are;
      columns = ap (λ (l : List StopNo). length l) c.as_slice-4.ensures.value ∙ sym c.requires.width;
    }

pub returns-in-Ok-clause-text : goal.returns-in-Ok-clause-text
returns-in-Ok-clause-text c =
    let a = c.args.asked.now in
    let matrix = c.args.matrix.now in
    let shares = c.as_slice-2.ensures.value ∙ ap (λ (s : SettingsData). s.shares) c.settings.view_is in
    let limits = c.as_slice-3.ensures.value ∙ ap (λ (s : SettingsData). s.withins) c.settings.view_is in
    let names = map (λ name. name.items) a.names.now in
    let labels = labels_are {names = names} refl c.as_slice.ensures.value shares limits c.as_slice-4.ensures.value refl in
    let text : List ℕ = matrix_text (labels_with names c.as_slice.result.now c.as_slice-2.result.now
    c.as_slice-3.result.now c.as_slice-4.result.now a.feed.now.stops) matrix in
    c.in-Ok.ensures.ok
    ∙ ap (λ (l : List ℕ). l ++ text) c.new-text.ensures.items
    ∙ ap (λ (l : LabelData). matrix_text l matrix) labels

pub returns-in-Err-Memory-clause-fault : goal.returns-in-Err-Memory-clause-fault
returns-in-Err-Memory-clause-fault c = refl
