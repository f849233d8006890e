-- What follows for the meaning of files.
use Rattle.std.specs.Prelude.{◌≡◌, ◌≤◌, ℕ, List, None, ⊤}
use Rattle.collector.specs.Places.{MatrixData}
use Rattle.workers.specs.Laws.{matrix_at}
use Rattle.workers.specs.Study.{StudyData}
use Rattle.workers.specs.declared.faults.RunFault.TheVariants.{Unfinished}
use Rattle.workers.specs.declared.gates.Verdict.TheVariants.{Work}
use Rattle.matrix_text.specs.Text.{matrix_text}
use Rattle.studies.specs.declared.fault.StudyFault.{StudyFault}
use Rattle.studies.specs.declared.fault.StudyFault.TheVariants as fault
use Rattle.studies.specs.Inputs.{InputFiles}
use Rattle.studies.specs.Parts.{destinations_in, labels_in}
use Rattle.studies.specs.Settings.{SettingsData}
use Rattle.studies.specs.Study.{IsStudyText, Means, Refuses, TellsBy}

-- a law: the same files and settings have one text
abbrev pub TextsAreUnique : Type 0
TextsAreUnique = (i : InputFiles) (s : SettingsData) (text other : List ℕ) → IsStudyText i s text →
    IsStudyText i s other → text ≡ other

-- a law: no files are both refused and accepted
abbrev pub RefusedHaveNoMeaning : Type 0
RefusedHaveNoMeaning = (i : InputFiles) (s : SettingsData) (e : StudyFault) (study : StudyData) → Refuses e i s →
    Means i s study → ⊥

-- the same files without one of destinations
abbrev pub to_all_stops : InputFiles → InputFiles
to_all_stops i = record i { destinations = None }

-- a law: the text of a study with destinations is that of the same study without them, with the other columns left out:
-- there is one matrix of which the one has the columns of all stops, and the other those of the destinations
abbrev pub TextsHaveTheirColumns : Type 0
TextsHaveTheirColumns =
    (i : InputFiles) (s : SettingsData) (text whole : List ℕ) → IsStudyText i s text →
    IsStudyText (to_all_stops i) s whole →
    (m : MatrixData) × (whole ≡ matrix_text (labels_in (to_all_stops i) s) m)
    × (text ≡ matrix_text (labels_in i s) (matrix_at (destinations_in i) m))

-- a law: a study whose gate lets each lease be worked at is never left unfinished
abbrev pub OpenStudiesFinish : Type 0
OpenStudiesFinish = (i : InputFiles) (s : SettingsData) (scenario origin : ℕ) → 1 ≤ s.tries →
    TellsBy (λ _ verdict. verdict ≡ Work) (λ _ _. ⊤) (fault.Run (Unfinished scenario origin)) i s → ⊥
