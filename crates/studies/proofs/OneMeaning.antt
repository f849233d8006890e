-- One meaning, one text, and no refusal beside it.
use Rattle.std.proofs.Common.{◌≡◌, ◌∙◌, List, ap, arith, subst, sym}
use Rattle.timetable.specs.Footpaths.{FeetData}
use Rattle.timetable.specs.Networks.{Net}
use Rattle.footpaths.specs.Closure.{ClosuresAreUnique, TooManyHaveNoClosure}
use Rattle.collector.specs.Places.{MatrixData}
use Rattle.workers.specs.Laws.{MatricesAreUnique}
use Rattle.workers.specs.Matrices.{IsMatrix}
use Rattle.workers.specs.Study.{StudyData}
use Rattle.matrix_text.specs.Text.{matrix_text}
use Rattle.studies.specs.declared.fault.StudyFault.TheVariants as fault
use Rattle.studies.specs.Inputs.{InputFiles}
use Rattle.studies.specs.Names.{name_faults}
use Rattle.studies.specs.Laws.{RefusedHaveNoMeaning, TextsAreUnique}
use Rattle.studies.specs.Parts.{day_faults, direct_in, edit_faults, feed_in, labels_in}
use Rattle.studies.specs.Parts.{network_faults, networks_of, runs_in, scenarios_in, study_in, table_faults}
use Rattle.studies.specs.Settings.{SettingsData}
use Rattle.studies.specs.Study.{Means}
use Rattle.studies.proofs.FirstOfLists.{no_first}

-- the files mean one study
one_study : ClosuresAreUnique → (i : InputFiles) (s : SettingsData) (a b : StudyData) → Means i s a → Means i s b →
    a ≡ b
one_study once i s a b h g =
    let feet : h.made.feet ≡ g.made.feet = once (direct_in i) s.walk h.made.feet g.made.feet h.made.walked.walks.closed
    g.made.walked.walks.closed in
    let networks : h.networks ≡ g.networks =
    h.made.networks_are ∙ ap (λ (f : FeetData). networks_of (feed_in i) (runs_in i s) f (scenarios_in i)) feet
    ∙ sym g.made.networks_are in
    h.study_is ∙ ap (λ (n : List Net). study_in i s n) networks ∙ sym g.study_is

pub texts_unique : ClosuresAreUnique → MatricesAreUnique → TextsAreUnique
texts_unique closures matrices i s text other h g =
    let study : h.study ≡ g.study = one_study closures i s h.study g.study h.means g.means in
    let matrix : h.matrix ≡ g.matrix = matrices h.study h.matrix g.matrix h.is_matrix
    (subst (λ (x : StudyData). IsMatrix x g.matrix) (sym study) g.is_matrix) in
    h.text_is ∙ ap (λ (m : MatrixData). matrix_text (labels_in i s) m) matrix ∙ sym g.text_is

pub refused_meaningless : TooManyHaveNoClosure → RefusedHaveNoMeaning
refused_meaningless none i s fault.Scenarios study r m = let few = m.made.walked.dated.edited.read.named.few in
    omega (arith, r, few)
refused_meaningless none i s (fault.Name k) study r m =
    no_first k (name_faults i.scenarios) m.made.walked.dated.edited.read.named.names r.1
refused_meaningless none i s (fault.Feed e) study r m =
    no_first e (table_faults i) m.made.walked.dated.edited.read.tables r.1
refused_meaningless none i s (fault.Scenario k e) study r m =
    no_first (k, e) (edit_faults (feed_in i) 0 i.scenarios) m.made.walked.dated.edited.edits r.1
refused_meaningless none i s (fault.Days e) study r m = no_first e (day_faults i s) m.made.walked.dated.days r.1
refused_meaningless none i s (fault.Feet e) study r m = none (direct_in i) s.walk m.made.feet r.2 m.made.walked.walks
refused_meaningless none i s (fault.Net k e) study r m =
    no_first (k, e) (network_faults (feed_in i) (runs_in i s) 0 (scenarios_in i)) m.made.faultless r.2
refused_meaningless none i s (fault.Run e) study r m = r
refused_meaningless none i s (fault.Text e) study r m = r
refused_meaningless none i s fault.Memory study r m = r
