-- What goes into a study: the bytes of the feed's files and of the analyst's own, of which some may be absent.
use Rattle.std.specs.Prelude.{◌≤◌, List, Option, All, length}
use Rattle.table_records.specs.declared.limits.TheConstants.{MOST_BYTES}
use Rattle.gtfs_tables.specs.Files as files
use Rattle.studies.specs.NamedFile.{NamedBytes}
use Rattle.studies.specs.declared.inputs.Inputs.{Inputs}

-- the bytes of all files, and the scenario files in their order
pub record InputFiles : Type 0 where
  pub feed : files.FeedFiles
  pub footpaths : Option files.Bytes
  pub origins : Option files.Bytes
  pub opportunities : Option files.Bytes
  pub destinations : Option files.Bytes
  pub scenarios : List NamedBytes

-- the files as a program holds them
abbrev pub inputs_of : Inputs → InputFiles
inputs_of i = record {
  feed = files.files_of i.feed;
  footpaths = files.bytes_of i.footpaths;
  origins = files.bytes_of i.origins;
  opportunities = files.bytes_of i.opportunities;
  destinations = files.bytes_of i.destinations;
  scenarios = i.scenarios.now;
}

-- each file that is there keeps the limit of an input file
pub record AreWithinLimit (i : InputFiles) : Type 0 where
  pub feed : files.AreWithinLimit i.feed
  pub footpaths : files.IsWithinLimit i.footpaths
  pub origins : files.IsWithinLimit i.origins
  pub opportunities : files.IsWithinLimit i.opportunities
  pub destinations : files.IsWithinLimit i.destinations
  pub scenarios : All (λ f. length f.bytes ≤ MOST_BYTES) i.scenarios
