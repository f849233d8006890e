-- The texts of a study with destinations and without have columns of one matrix.
use Rattle.std.proofs.Common.{◌≡◌, ◌∙◌, ℕ, List, All, ap, map, subst, sym}
use Rattle.std.specs.List.{range_with_len}
use Rattle.timetable.specs.declared.trips.StopNo.{StopNo}
use Rattle.timetable.specs.Footpaths.{FeetData}
use Rattle.timetable.specs.Networks.{Net}
use Rattle.footpaths.specs.Closure.{ClosuresAreUnique}
use Rattle.collector.specs.Places.{MatrixData}
use Rattle.workers.specs.Laws.{all_stops, matrix_at, MatricesHaveTheirColumns}
use Rattle.workers.specs.Matrices.{IsMatrix}
use Rattle.workers.specs.Study.{StudyData}
use Rattle.matrix_text.specs.Text.{matrix_text}
use Rattle.studies.specs.Inputs.{InputFiles}
use Rattle.studies.specs.Laws.{to_all_stops, TextsHaveTheirColumns}
use Rattle.studies.specs.Parts.{destinations_in, direct_in, feed_in, labels_in, networks_of, runs_in, scenarios_in}
use Rattle.studies.specs.Parts.{study_in}
use Rattle.studies.specs.Settings.{SettingsData}
use Rattle.studies.specs.Study.{AreNetworks}
use Rattle.studies.proofs.StudyFacts.{network_stops}

-- without a file of destinations they are all stops of each network
all_are_columns : (i : InputFiles) (s : SettingsData) (networks : List Net) → AreNetworks (to_all_stops i) s networks
    → All (λ (n : Net). destinations_in (to_all_stops i) ≡ all_stops n) networks
all_are_columns i s networks made k d below =
    let stop : ℕ → StopNo = λ m. record { 0 = m } in
    ap (λ (count : ℕ). map stop (range_with_len 0 count))
    (sym (network_stops (to_all_stops i) s networks made k d below))

pub texts_columns : ClosuresAreUnique → MatricesHaveTheirColumns → TextsHaveTheirColumns
texts_columns once columns i s text whole h g =
    let feet : h.means.made.feet ≡ g.means.made.feet =
    once (direct_in i) s.walk h.means.made.feet g.means.made.feet h.means.made.walked.walks.closed
    g.means.made.walked.walks.closed in
    let networks : h.means.networks ≡ g.means.networks =
    h.means.made.networks_are ∙ ap (λ (f : FeetData). networks_of (feed_in i) (runs_in i s) f (scenarios_in i)) feet
    ∙ sym g.means.made.networks_are in
    let of_whole : IsMatrix (study_in (to_all_stops i) s g.means.networks) g.matrix =
    subst (λ (x : StudyData). IsMatrix x g.matrix) g.means.study_is g.is_matrix in
    let of_some : IsMatrix (study_in i s g.means.networks) h.matrix =
    subst (λ (x : StudyData). IsMatrix x h.matrix) (h.means.study_is
    ∙ ap (λ (n : List Net). study_in i s n) networks) h.is_matrix in
    let matrix : h.matrix ≡ matrix_at (destinations_in i) g.matrix =
    columns (study_in (to_all_stops i) s g.means.networks) (destinations_in i) g.matrix h.matrix
    (all_are_columns i s g.means.networks g.means.made) of_whole of_some in
    (g.matrix, g.text_is, h.text_is ∙ ap (λ (m : MatrixData). matrix_text (labels_in i s) m) matrix)
