-- Which study the files mean, or which part of them is refused first.
-- The parts in their order: the names of the scenarios; the feed, footpaths, origins, opportunities and destinations;
-- the scenario files; the runs of the study's days; the closed footpaths; and the networks.
use Rattle.std.specs.Prelude.{◌≡◌, ◌⊎◌, ◌<◌, ◌≤◌, ℕ, List, [], length, ⊤}
use Rattle.table_records.specs.Faults.{IsFirst}
use Rattle.table_records.specs.declared.fault.What.TheVariants as what
use Rattle.timetable.specs.declared.faults.NetFault.TheVariants as net
use Rattle.timetable.specs.Footpaths.{FeetData}
use Rattle.timetable.specs.Networks.{Net}
use Rattle.service_days.specs.declared.fault.DayFault.TheVariants as day
use Rattle.footpaths.specs.declared.faults.FootFault.TheVariants as foot
use Rattle.footpaths.specs.Closure.{HasTooMany, IsClosure}
use Rattle.scenarios.specs.declared.faults.ScenarioWhat.TheVariants as edit
use Rattle.collector.specs.Places.{MatrixData}
use Rattle.workers.specs.declared.faults.RunFault.{RunFault}
use Rattle.workers.specs.Held.{Decides, WasTold}
use Rattle.workers.specs.Outcomes.{IsFaultOfNew}
use Rattle.workers.specs.Matrices.{IsMatrix}
use Rattle.workers.specs.Study.{StudyData}
use Rattle.workers.specs.declared.study.TheConstants.{MOST_SCENARIOS}
use Rattle.matrix_text.specs.declared.faults.TextFault.TheVariants as text
use Rattle.matrix_text.specs.Text.{matrix_text}
use Rattle.studies.specs.declared.fault.StudyFault.{StudyFault}
use Rattle.studies.specs.declared.fault.StudyFault.TheVariants as fault
use Rattle.studies.specs.Inputs.{InputFiles}
use Rattle.studies.specs.Names.{name_faults}
use Rattle.studies.specs.Settings.{SettingsData}
use Rattle.studies.specs.Parts.{table_faults, edit_faults, day_faults, network_faults, feed_in}
use Rattle.studies.specs.Parts.{direct_in, scenarios_in, runs_in, networks_of, study_in, labels_in}

-- there are few enough scenario files, and their names are accepted
pub record AreNamed (i : InputFiles) : Type 0 where
  pub few : length i.scenarios < MOST_SCENARIOS
  pub names : name_faults i.scenarios ≡ []

-- ... and so are the feed, footpaths, origins, opportunities and destinations
pub record AreRead (i : InputFiles) : Type 0 where
  pub named : AreNamed i
  pub tables : table_faults i ≡ []

-- ... and the scenario files
pub record AreEdited (i : InputFiles) : Type 0 where
  pub read : AreRead i
  pub edits : edit_faults (feed_in i) 0 i.scenarios ≡ []

-- ... and the runs of the study's days
pub record AreDated (i : InputFiles) (s : SettingsData) : Type 0 where
  pub edited : AreEdited i
  pub days : day_faults i s ≡ []

-- ... and the footpaths, of which these are the closed ones
pub record AreWalked (i : InputFiles) (s : SettingsData) (feet : FeetData) : Type 0 where
  pub dated : AreDated i s
  pub walks : IsClosure (direct_in i) s.walk feet

-- ... and these are the networks
pub record AreNetworks (i : InputFiles) (s : SettingsData) (networks : List Net) : Type 0 where
  pub feet : FeetData
  pub walked : AreWalked i s feet
  pub faultless : network_faults (feed_in i) (runs_in i s) 0 (scenarios_in i) ≡ []
  pub networks_are : networks ≡ networks_of (feed_in i) (runs_in i s) feet (scenarios_in i)

-- the files are accepted, and mean this study
pub record Means (i : InputFiles) (s : SettingsData) (study : StudyData) : Type 0 where
  pub networks : List Net
  pub made : AreNetworks i s networks
  pub study_is : study ≡ study_in i s networks

-- this is the first fault of the first part that is refused
abbrev pub Refuses : StudyFault → InputFiles → SettingsData → Type 0
Refuses fault.Scenarios i s = MOST_SCENARIOS ≤ length i.scenarios
Refuses (fault.Name k) i s = (length i.scenarios < MOST_SCENARIOS) × IsFirst k (name_faults i.scenarios)
Refuses (fault.Feed e) i s = AreNamed i × IsFirst e (table_faults i)
Refuses (fault.Scenario k e) i s = AreRead i × IsFirst (k, e) (edit_faults (feed_in i) 0 i.scenarios)
Refuses (fault.Days e) i s = AreEdited i × IsFirst e (day_faults i s)
Refuses (fault.Feet e) i s = AreDated i s × (e ≡ foot.TooMany) × HasTooMany (direct_in i).pairs s.walk
Refuses (fault.Net k e) i s =
    (feet : FeetData) × AreWalked i s feet
    × IsFirst (k, e) (network_faults (feed_in i) (runs_in i s) 0 (scenarios_in i))
Refuses (fault.Run e) i s = ⊥
Refuses (fault.Text e) i s = ⊥
Refuses fault.Memory i s = ⊥

-- why a gate's run of workers gave no matrix of the study that the files mean: by as many workers as the settings say,
-- on a board where each row may be begun as often as they say
pub record IsFaultOfRun (decides : Decides) (was_told : WasTold) (e : RunFault) (i : InputFiles)
    (s : SettingsData) : Type 0 where
  pub study : StudyData
  pub means : Means i s study
  pub why : IsFaultOfNew study decides was_told s.workers s.tries e

-- what the files don't decide: out of memory, and a run of workers that gives no matrix
abbrev pub IsNotOfFiles : Decides → WasTold → StudyFault → InputFiles → SettingsData → Type 0
IsNotOfFiles decides was_told fault.Scenarios i s = ⊥
IsNotOfFiles decides was_told (fault.Name k) i s = ⊥
IsNotOfFiles decides was_told (fault.Feed e) i s = e.what ≡ what.Memory
IsNotOfFiles decides was_told (fault.Scenario k e) i s = e.what ≡ edit.Memory
IsNotOfFiles decides was_told (fault.Days e) i s = e ≡ day.Memory
IsNotOfFiles decides was_told (fault.Feet e) i s = e ≡ foot.Memory
IsNotOfFiles decides was_told (fault.Net k e) i s = e ≡ net.Memory
IsNotOfFiles decides was_told (fault.Run e) i s = IsFaultOfRun decides was_told e i s
IsNotOfFiles decides was_told (fault.Text e) i s = e ≡ text.Memory
IsNotOfFiles decides was_told fault.Memory i s = ⊤

-- what may be told of the files, where a gate decides so of the leases, and was told so of them
abbrev pub TellsBy : Decides → WasTold → StudyFault → InputFiles → SettingsData → Type 0
TellsBy decides was_told e i s = IsNotOfFiles decides was_told e i s ⊎ Refuses e i s

-- what may be told of the files, whatever the gate is
abbrev pub Tells : StudyFault → InputFiles → SettingsData → Type 0
Tells e i s = TellsBy (λ _ _. ⊤) (λ _ _. ⊤) e i s

-- the text of the matrix of the study that the files mean
pub record IsStudyText (i : InputFiles) (s : SettingsData) (bytes : List ℕ) : Type 0 where
  pub study : StudyData
  pub matrix : MatrixData
  pub means : Means i s study
  pub is_matrix : IsMatrix study matrix
  pub text_is : bytes ≡ matrix_text (labels_in i s) matrix
