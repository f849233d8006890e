-- The parts of a study, each from those before it, and the faults of each, in the order in which a study is made.
use Rattle.std.specs.Prelude.{◌+◌, ◌++◌, ℕ, List, [], ◌∷◌, map}
use Rattle.table_records.specs.declared.fault.FeedFault.{FeedFault}
use Rattle.timetable.specs.declared.faults.NetFault.{NetFault}
use Rattle.timetable.specs.declared.trips.StopNo.{StopNo}
use Rattle.timetable.specs.Footpaths.{FeetData}
use Rattle.timetable.specs.Networks.{Net}
use Rattle.gtfs_tables.specs.Feed.{FeedData, day_number}
use Rattle.gtfs_tables.specs.Files.{feed_faults, feed_of}
use Rattle.gtfs_tables.specs.Origins.{destinations_faults, destinations_of, origins_faults, origins_of}
use Rattle.gtfs_tables.specs.Opportunities.{opportunities_faults, opportunities_of}
use Rattle.service_days.specs.declared.fault.DayFault.{DayFault}
use Rattle.service_days.specs.declared.run.Run.{Run}
use Rattle.service_days.specs.Instances as days
use Rattle.footpaths.specs.Direct.{DirectLists}
use Rattle.footpaths.specs.Walks.{direct_faults, direct_of}
use Rattle.scenarios.specs.declared.faults.ScenarioFault.{ScenarioFault}
use Rattle.scenarios.specs.ScenarioData.{ScenarioData}
use Rattle.scenarios.specs.Files.{scenario_faults, scenario_in}
use Rattle.scenarios.specs.Networks.{net_faults, net_of}
use Rattle.workers.specs.Study.{StudyData}
use Rattle.matrix_text.specs.Text.{LabelData}
use Rattle.studies.specs.Inputs.{InputFiles}
use Rattle.studies.specs.NamedFile.{NamedBytes}
use Rattle.studies.specs.Names.{base_name, names_of}
use Rattle.studies.specs.Settings.{SettingsData, query_of}

-- what the feed's files state
abbrev pub feed_in : InputFiles → FeedData
feed_in i = feed_of i.feed

-- the direct footpaths
abbrev pub direct_in : InputFiles → DirectLists
direct_in i = direct_of (feed_in i) i.footpaths

-- the stops at which journeys begin
abbrev pub origins_in : InputFiles → List StopNo
origins_in i = origins_of i.origins (feed_in i)

-- what each stop counts for
abbrev pub opportunities_in : InputFiles → List ℕ
opportunities_in i = opportunities_of i.opportunities (feed_in i)

-- the stops that a row has cells for
abbrev pub destinations_in : InputFiles → List StopNo
destinations_in i = destinations_of i.destinations (feed_in i)

-- the faults of the tables of a question: those of origins, of opportunities, and of destinations
abbrev pub point_faults : InputFiles → FeedData → List FeedFault
point_faults i feed =
    origins_faults i.origins feed
    ++ (opportunities_faults i.opportunities feed ++ destinations_faults i.destinations feed)

-- the faults of the analyst's own tables: those of footpaths, and of the tables of a question
abbrev pub own_faults : InputFiles → FeedData → List FeedFault
own_faults i feed = direct_faults feed i.footpaths ++ point_faults i feed

-- the faults of all files but the scenarios: the feed's, and then those of the analyst's own tables
abbrev pub table_faults : InputFiles → List FeedFault
table_faults i = feed_faults i.feed ++ own_faults i (feed_in i)

-- the faults of scenario files, each with the file's number, of which the first has this one
abbrev pub edit_faults : FeedData → ℕ → List NamedBytes → List (ℕ × ScenarioFault)
edit_faults feed number [] = []
edit_faults feed number (f ∷ files) =
    map (λ e. (number, e)) (scenario_faults f.bytes feed) ++ edit_faults feed (number + 1) files

-- the scenario without edits
abbrev pub base_scenario : ScenarioData
base_scenario = record { name = base_name; edits = [] }

-- the scenario without edits, and then one for each file
abbrev pub scenarios_of : FeedData → List NamedBytes → List ScenarioData
scenarios_of feed files = base_scenario ∷ map (λ f. scenario_in f.name f.bytes feed) files

abbrev pub scenarios_in : InputFiles → List ScenarioData
scenarios_in i = scenarios_of (feed_in i) i.scenarios

-- why the runs of the study's days aren't listed
abbrev pub day_faults : InputFiles → SettingsData → List DayFault
day_faults i s = days.day_faults (feed_in i) (day_number s.date) s.back s.ahead

-- the runs of the study's days
abbrev pub runs_in : InputFiles → SettingsData → List Run
runs_in i s = days.runs_of (feed_in i) (day_number s.date) s.back s.ahead

-- the faults of networks, each with its scenario's number, of which the first has this one
abbrev pub network_faults : FeedData → List Run → ℕ → List ScenarioData → List (ℕ × NetFault)
network_faults feed runs number [] = []
network_faults feed runs number (x ∷ xs) =
    map (λ e. (number, e)) (net_faults feed x runs) ++ network_faults feed runs (number + 1) xs

-- one network for each scenario
abbrev pub networks_of : FeedData → List Run → FeetData → List ScenarioData → List Net
networks_of feed runs feet xs = map (λ x. net_of feed x runs feet) xs

-- the study of these networks
abbrev pub study_in : InputFiles → SettingsData → List Net → StudyData
study_in i s networks = record {
  number = 0;
  networks = networks;
  origins = origins_in i;
  opportunities = opportunities_in i;
  query = query_of s (destinations_in i);
}

-- what names the rows and the columns
abbrev pub labels_in : InputFiles → SettingsData → LabelData
labels_in i s = record {
  scenarios = names_of i.scenarios;
  origins = origins_in i;
  shares = s.shares;
  limits = s.withins;
  destinations = destinations_in i;
  stops = (feed_in i).stops;
}
