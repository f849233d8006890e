-- The files of a feed as they were read from the disk.
use Rattle.std.specs.Prelude.{None, option_map}
use Rattle.gtfs_tables.specs.Files as files
use Rattle.studies.specs.declared.feed_files.FeedFiles.{FeedFiles}

-- the bytes of each file, by its name
abbrev pub files_read : FeedFiles → files.FeedFiles
files_read f = record {
  stops = option_map (λ bytes. bytes.items) f.stops;
  routes = option_map (λ bytes. bytes.items) f.routes;
  calendar = option_map (λ bytes. bytes.items) f.calendar;
  calendar_dates = option_map (λ bytes. bytes.items) f.calendar_dates;
  trips = option_map (λ bytes. bytes.items) f.trips;
  stop_times = option_map (λ bytes. bytes.items) f.stop_times;
  frequencies = option_map (λ bytes. bytes.items) f.frequencies;
  transfers = option_map (λ bytes. bytes.items) f.transfers;
}

-- no file is there
abbrev pub no_files : files.FeedFiles
no_files = record {
  stops = None;
  routes = None;
  calendar = None;
  calendar_dates = None;
  trips = None;
  stop_times = None;
  frequencies = None;
  transfers = None;
}
