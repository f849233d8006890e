-- What each stage of a study tells of the parts that it makes.
use Rattle.std.specs.Prelude.{◌≡◌, ◌⊎◌, ◌<◌, ◌≤◌, List, [], length, ⊤, All}
use Rattle.table_records.specs.Faults.{IsFirst, Tells}
use Rattle.timetable.specs.declared.faults.NetFault.TheVariants as net
use Rattle.gtfs_tables.specs.Feed.{FeedData}
use Rattle.gtfs_tables.specs.Files.{feed_faults}
use Rattle.gtfs_tables.specs.Origins.{destinations_of, origins_of}
use Rattle.gtfs_tables.specs.Opportunities.{opportunities_of}
use Rattle.service_days.specs.declared.run.Run.{Run}
use Rattle.service_days.specs.Instances.{IsRun}
use Rattle.scenarios.specs.declared.faults.ScenarioWhat.TheVariants as edit
use Rattle.scenarios.specs.ScenarioData.{ScenarioData}
use Rattle.workers.specs.declared.study.TheConstants.{MOST_SCENARIOS}
use Rattle.matrix_text.specs.declared.faults.TextFault.TheVariants as text
use Rattle.studies.specs.declared.fault.StudyFault.{StudyFault}
use Rattle.studies.specs.declared.fault.StudyFault.TheVariants as fault
use Rattle.studies.specs.declared.parts.NetworkParts.{NetworkParts}
use Rattle.studies.specs.declared.parts.Tables.{Tables}
use Rattle.studies.specs.Inputs.{InputFiles}
use Rattle.studies.specs.NamedFile.{NamedBytes}
use Rattle.studies.specs.Names.{name_faults}
use Rattle.studies.specs.Parts.{feed_in, edit_faults, network_faults, point_faults, runs_in, scenarios_in}
use Rattle.studies.specs.Settings.{SettingsData}
use Rattle.studies.specs.Study.{AreWalked}

-- the feed is what its files state, without a fault
pub record IsFeedOf (i : InputFiles) (feed : FeedData) : Type 0 where
  pub faultless : feed_faults i.feed ≡ []
  pub feed_is : feed ≡ feed_in i

-- the tables of a question for a feed: the origins and destinations are stops, each once, and each stop has its
-- opportunities
pub record AreTables (i : InputFiles) (feed : FeedData) (t : Tables) : Type 0 where
  pub origins_are : t.origins.items ≡ origins_of i.origins feed
  pub opportunities_are : t.opportunities.items ≡ opportunities_of i.opportunities feed
  pub in_range : All (λ o. o.0 < length feed.stops) t.origins.items
  pub few_origins : length t.origins.items ≤ length feed.stops
  pub count : length t.opportunities.items ≡ length feed.stops
  pub destinations_are : t.destinations.items ≡ destinations_of i.destinations feed
  pub destinations_in_range : All (λ o. o.0 < length feed.stops) t.destinations.items
  pub few_destinations : length t.destinations.items ≤ length feed.stops

-- what the networks are made of: the scenarios, the runs of the study's days, and the closed footpaths
pub record AreNetworkParts (i : InputFiles) (s : SettingsData) (p : NetworkParts) : Type 0 where
  pub scenarios_are : p.scenarios.items ≡ scenarios_in i
  pub runs_are : p.runs.items ≡ runs_in i s
  pub of_feed : All (IsRun (feed_in i)) p.runs.items
  pub walked : AreWalked i s p.feet

-- the first fault of the tables of a question, or out of memory
abbrev pub TellsTables : StudyFault → InputFiles → FeedData → Type 0
TellsTables (fault.Feed e) i feed = Tells e (point_faults i feed)
TellsTables fault.Memory i feed = ⊤
TellsTables _ i feed = ⊥

-- too many files, or the first name that is refused
abbrev pub TellsNames : StudyFault → List NamedBytes → Type 0
TellsNames fault.Scenarios files = MOST_SCENARIOS ≤ length files
TellsNames (fault.Name k) files = (length files < MOST_SCENARIOS) × IsFirst k (name_faults files)
TellsNames _ files = ⊥

-- the first fault of the scenario files, or out of memory
abbrev pub TellsEdits : StudyFault → FeedData → List NamedBytes → Type 0
TellsEdits (fault.Scenario k e) feed files = (e.what ≡ edit.Memory) ⊎ IsFirst (k, e) (edit_faults feed 0 files)
TellsEdits fault.Memory feed files = ⊤
TellsEdits _ feed files = ⊥

-- the first fault of the networks, or out of memory
abbrev pub TellsNetworks : StudyFault → FeedData → List Run → List ScenarioData → Type 0
TellsNetworks (fault.Net k e) feed runs xs = (e ≡ net.Memory) ⊎ IsFirst (k, e) (network_faults feed runs 0 xs)
TellsNetworks fault.Memory feed runs xs = ⊤
TellsNetworks _ feed runs xs = ⊥

-- no run of workers is told of
abbrev pub IsOfNoRun : StudyFault → Type 0
IsOfNoRun (fault.Run e) = ⊥
IsOfNoRun _ = ⊤

-- out of memory
abbrev pub TellsText : StudyFault → Type 0
TellsText (fault.Text e) = e ≡ text.Memory
TellsText fault.Memory = ⊤
TellsText _ = ⊥
