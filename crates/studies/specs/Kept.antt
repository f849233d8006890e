-- What is kept of a study's files between questions: the feed and the networks, which no question changes.
-- "Origins, opportunities and destinations are a question's own, and so are the departures, the rides, the shares, the
-- limits of access, the workers and the tries. The feed, the footpaths, the scenarios, the days and the longest walk
-- are not." (The program's own rule.)
use Rattle.std.specs.Prelude.{[], None}
use Rattle.studies.specs.declared.kept.Kept.{Kept}
use Rattle.studies.specs.Inputs.{AreWithinLimit, InputFiles, inputs_of}
use Rattle.studies.specs.Settings.{SettingsData}
use Rattle.studies.specs.Stages.{IsFeedOf}
use Rattle.studies.specs.Study.{AreNetworks}

-- the files that no question changes: those of a study without a file of origins, opportunities or destinations
abbrev pub lasting_files : InputFiles → InputFiles
lasting_files i = record i { origins = None; opportunities = None; destinations = None }

-- the settings that no question changes, the days and the longest walk, with nothing asked beside them
abbrev pub lasting_settings : SettingsData → SettingsData
lasting_settings s =
    record s { first = 0; minutes = 0; rides = 0; shares = []; withins = []; workers = 0; tries = 0 }

-- what is kept is what the files state, without a fault: the feed, and the network of each scenario
pub record IsKept (k : Kept) : Type 0 where
  pub limit : AreWithinLimit (inputs_of k.inputs)
  pub feed : IsFeedOf (inputs_of k.inputs) k.feed.value
  pub networks : AreNetworks (lasting_files (inputs_of k.inputs)) (lasting_settings k.settings.now) k.networks.items
