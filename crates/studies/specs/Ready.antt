-- What is ready to be computed: the networks, and what is asked of them.
use Rattle.std.specs.Prelude.{◌≡◌, ℕ, List, map}
use Rattle.timetable.specs.Networks.{Net}
use Rattle.matrix_text.specs.Text.{LabelData}
use Rattle.studies.specs.declared.parts.Asked.{Asked}
use Rattle.studies.specs.declared.parts.Tables.{Tables}
use Rattle.studies.specs.declared.ready.ReadyStudy.{ReadyStudy}
use Rattle.studies.specs.Inputs.{InputFiles}
use Rattle.studies.specs.Names.{names_of}
use Rattle.studies.specs.Parts.{feed_in}
use Rattle.studies.specs.Settings.{SettingsData}
use Rattle.studies.specs.Stages.{AreTables}
use Rattle.studies.specs.Study.{AreNetworks}

-- the feed's stops, the scenarios' names, the tables and the networks are those of the study that the files and
-- settings mean
pub record AreReady (i : InputFiles) (s : SettingsData) (stops names : List (List ℕ)) (t : Tables)
    (networks : List Net) : Type 0 where
  pub stops_are : stops ≡ (feed_in i).stops
  pub names_are : names ≡ names_of i.scenarios
  pub tables_are : AreTables i (feed_in i) t
  pub networks_are : AreNetworks i s networks

-- so are those of a study that is ready
abbrev pub IsReady : InputFiles → SettingsData → ReadyStudy → Type 0
IsReady i s r =
    AreReady i s r.feed.value.stops (map (λ name. name.items) r.names.items) r.tables.value r.networks.items

-- so are those of what is asked
abbrev pub IsAsked : InputFiles → Asked → Type 0
IsAsked i a =
    AreReady i a.settings.now a.feed.now.stops (map (λ name. name.items) a.names.now) a.tables.now a.networks.now

-- what names the rows and the columns of what is asked
abbrev pub labels_of : Asked → LabelData
labels_of a = record {
  scenarios = map (λ name. name.items) a.names.now;
  origins = a.tables.now.origins.items;
  shares = a.settings.now.shares;
  limits = a.settings.now.withins;
  destinations = a.tables.now.destinations.items;
  stops = a.feed.now.stops;
}
