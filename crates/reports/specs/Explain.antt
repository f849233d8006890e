-- What explains a fault of a file: the columns that its header must have, and the checks of its records.
-- "The checks of a file are those of its own reader." (The report's own rule.)
use Rattle.std.specs.Prelude.{ℕ, List, []}
use Rattle.footpaths.specs.Walks as footpaths
use Rattle.gtfs_tables.specs.Feed.{FeedData}
use Rattle.gtfs_tables.specs.Opportunities as opportunities
use Rattle.gtfs_tables.specs.Origins as origins
use Rattle.table_files.specs.Calendar as calendar
use Rattle.table_files.specs.CalendarDates as calendar_dates
use Rattle.table_files.specs.FeedTrips as trips
use Rattle.table_files.specs.Frequencies as frequencies
use Rattle.table_files.specs.Places as places
use Rattle.table_files.specs.Routes as routes
use Rattle.trip_events.specs.StopTimes as stop_times
use Rattle.table_files.specs.Transfers as transfers
use Rattle.table_records.specs.Checks.{Explains}
use Rattle.table_records.specs.declared.checks.Check.{Check}
use Rattle.table_records.specs.declared.fault.FileName.{FileName}
use Rattle.table_records.specs.declared.fault.FileName.TheVariants as file

-- the columns that the header of a file must have
abbrev pub required_of : FileName → List (List ℕ)
required_of file.Stops = places.required
required_of file.Routes = routes.required
required_of file.Calendar = calendar.required
required_of file.CalendarDates = calendar_dates.required
required_of file.Trips = trips.required
required_of file.StopTimes = stop_times.required
required_of file.Frequencies = frequencies.required
required_of file.Transfers = []
required_of file.Footpaths = footpaths.required
required_of file.Origins = origins.required
required_of file.Opportunities = opportunities.required
required_of file.Destinations = origins.required

-- each fault of a record of the file, as its reader's definition states them, is that of one of these checks
abbrev pub ExplainsFile : FileName → List Check → Type 0
ExplainsFile file.Stops checks = Explains checks places.row_of places.checks
ExplainsFile file.Routes checks = Explains checks routes.row_of routes.checks
ExplainsFile file.Calendar checks = Explains checks calendar.row_of calendar.checks
ExplainsFile file.CalendarDates checks = Explains checks calendar_dates.row_of calendar_dates.checks
ExplainsFile file.Trips checks = (names : List (List ℕ)) → Explains checks trips.row_of (trips.checks names)
ExplainsFile file.StopTimes checks = (names stops : List (List ℕ)) →
    Explains checks stop_times.row_of (stop_times.checks names stops)
ExplainsFile file.Frequencies checks = (names : List (List ℕ)) →
    Explains checks frequencies.row_of (frequencies.checks names)
ExplainsFile file.Transfers checks = (names : List (List ℕ)) → Explains checks transfers.row_of (transfers.checks names)
ExplainsFile file.Footpaths checks = (feed : FeedData) → Explains checks footpaths.row_of (footpaths.checks feed)
ExplainsFile file.Origins checks = (stops : List (List ℕ)) → Explains checks origins.row_of (origins.checks stops)
ExplainsFile file.Opportunities checks = (stops : List (List ℕ)) →
    Explains checks opportunities.row_of (opportunities.checks stops)
ExplainsFile file.Destinations checks = (stops : List (List ℕ)) → Explains checks origins.row_of (origins.checks stops)
