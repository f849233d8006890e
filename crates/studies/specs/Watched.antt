-- The stages of a study that a watch sees, in their order, and the tables and days of these stages.
use Rattle.std.specs.Prelude.{◌≡◌, ◌⊎◌, List, [], ◌∷◌, Result, Ok, Err, ⊤}
use Rattle.collector.specs.Places.{MatrixData}
use Rattle.workers.specs.Matrices.{IsMatrix}
use Rattle.workers.specs.Study.{StudyData}
use Rattle.workers.specs.declared.faults.RunFault.{RunFault}
use Rattle.workers.specs.declared.faults.RunFault.TheVariants.{Memory}
use Rattle.footpaths.specs.Direct.{DirectLists}
use Rattle.gtfs_tables.specs.Feed.{FeedData}
use Rattle.scenarios.specs.ScenarioData.{ScenarioData}
use Rattle.service_days.specs.declared.run.Run.{Run}
use Rattle.timetable.specs.Footpaths.{FeetData}
use Rattle.timetable.specs.declared.trips.StopNo.{StopNo}
use Rattle.studies.specs.declared.fault.StudyFault.{StudyFault}
use Rattle.studies.specs.declared.fault.StudyFault.TheVariants as fault
use Rattle.studies.specs.Inputs.{InputFiles}
use Rattle.studies.specs.Parts.{destinations_in, direct_in, feed_in, origins_in, runs_in, scenarios_in}
use Rattle.studies.specs.Settings.{SettingsData}
use Rattle.studies.specs.Study.{AreWalked, Means}

-- the tables are read, the days are listed, the rows of a study begin, and they end with a matrix or a fault
pub data Stage : Type 0 where
  TablesRead : Stage
  DaysListed : Stage
  RowsBegin : StudyData → Stage
  RowsEnd : Result MatrixData RunFault → Stage

-- the stages up to each of them, in their order
abbrev pub read : List Stage
read = TablesRead ∷ []

abbrev pub listed : List Stage
listed = TablesRead ∷ DaysListed ∷ []

abbrev pub begun : StudyData → List Stage
begun study = TablesRead ∷ DaysListed ∷ RowsBegin study ∷ []

abbrev pub ended : StudyData → Result MatrixData RunFault → List Stage
ended study made = TablesRead ∷ DaysListed ∷ RowsBegin study ∷ RowsEnd made ∷ []

-- the feed and the analyst's own tables, as a watch sees them
pub record TablesData : Type 0 where
  pub feed : FeedData
  pub direct : DirectLists
  pub origins : List StopNo
  pub destinations : List StopNo

-- those that the files state
abbrev pub tables_in : InputFiles → TablesData
tables_in i = record {
  feed = feed_in i;
  direct = direct_in i;
  origins = origins_in i;
  destinations = destinations_in i;
}

-- the parts of the networks, as a watch sees them
pub record DaysData : Type 0 where
  pub feed : FeedData
  pub settings : SettingsData
  pub scenarios : List ScenarioData
  pub runs : List Run
  pub feet : FeetData

-- those of the study that the files mean, with these closed footpaths
abbrev pub days_in : InputFiles → SettingsData → FeetData → DaysData
days_in i s feet = record {
  feed = feed_in i;
  settings = s;
  scenarios = scenarios_in i;
  runs = runs_in i s;
  feet = feet;
}

-- the watch saw exactly the tables and the days of the study that the files mean
pub record HasReadTables (has_read : TablesData → Type 0) (has_listed : DaysData → Type 0) (i : InputFiles)
    (s : SettingsData) : Type 0 where
  pub read : has_read (tables_in i)
  pub feet : FeetData
  pub walked : AreWalked i s feet
  pub listed : has_listed (days_in i s feet)

-- the watch was told all stages of the study that the files mean, in their order, and its matrix
pub record SawAll (saw : List Stage → Type 0) (i : InputFiles) (s : SettingsData) : Type 0 where
  pub study : StudyData
  pub matrix : MatrixData
  pub means : Means i s study
  pub is_matrix : IsMatrix study matrix
  pub told : saw (ended study (Ok matrix))

-- where the workers gave no matrix of the study that the files mean, the watch was told why: in these very words, but
-- for out of memory
abbrev pub SawFault : (List Stage → Type 0) → StudyFault → InputFiles → SettingsData → Type 0
SawFault saw (fault.Run e) i s = (e ≡ Memory) ⊎ ((study : StudyData) × Means i s study × saw (ended study (Err e)))
SawFault saw _ i s = ⊤
