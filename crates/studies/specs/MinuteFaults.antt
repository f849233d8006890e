-- What keeps the line for one minute from being made.
use Rattle.std.specs.Prelude.{◌++◌, ℕ, List, [], ◌∷◌, position, is_none, ⊤, if◌then◌else◌}
use Rattle.std.specs.Str.{bytes_eq}
use Rattle.table_records.specs.Faults as feed
use Rattle.table_records.specs.declared.fault.FeedFault.{FeedFault}
use Rattle.table_records.specs.declared.fault.FileName.TheVariants.{Origins}
use Rattle.table_records.specs.declared.fault.What.TheVariants.{UnknownStop}
use Rattle.gtfs_tables.specs.Feed.{FeedData}
use Rattle.gtfs_tables.specs.Files.{FeedFiles, feed_faults, feed_of}
use Rattle.studies.specs.declared.fault.StudyFault.{StudyFault}
use Rattle.studies.specs.declared.fault.StudyFault.TheVariants.{Feed, Memory}

-- an origin that is no stop of the feed
abbrev pub origin_faults : FeedData → List ℕ → List FeedFault
origin_faults feed origin =
    if is_none (position (bytes_eq origin) feed.stops) then record {
      file = Origins;
      at = 0;
      what = UnknownStop;
    } ∷ [] else []

-- the faults of the tables, and then of the origin
abbrev pub minute_faults : FeedFiles → List ℕ → List FeedFault
minute_faults files origin = feed_faults files ++ origin_faults (feed_of files) origin

-- the first of the faults, or out of memory
abbrev pub Tells : StudyFault → List FeedFault → Type 0
Tells (Feed fault) faults = feed.Tells fault faults
Tells Memory faults = ⊤
Tells _ faults = ⊥
