-- The lines that tell a user why there is no answer, and the exit statuses.
-- "Each line begins with the program's name and ends with LF. A fault of a file names the file and the record, as a
-- spreadsheet counts it. 0 is done, 2 refused input, 3 no memory or no thread, 4 unfinished, 5 a read or write fault."
-- (The program's own rule.) Bytes are ASCII: 10 is LF.
use Rattle.std.specs.Prelude.{◌++◌, ℕ, List, [], ◌∷◌, map, codes, decimal, slice_get, zero, suc, unwrap_or}
use Rattle.table_records.specs.declared.fault.FileName.{FileName}
use Rattle.table_records.specs.declared.fault.FileName.TheVariants as file
use Rattle.table_records.specs.declared.fault.What.{What}
use Rattle.table_records.specs.declared.fault.What.TheVariants as what
use Rattle.scenarios.specs.declared.faults.ScenarioWhat.{ScenarioWhat}
use Rattle.scenarios.specs.declared.faults.ScenarioWhat.TheVariants as edit
use Rattle.service_days.specs.FaultWords.{words_of as day_words}
use Rattle.service_days.specs.declared.fault.DayFault.{DayFault}
use Rattle.service_days.specs.declared.fault.DayFault.TheVariants as day
use Rattle.footpaths.specs.FaultWords.{words_of as foot_words}
use Rattle.footpaths.specs.declared.faults.FootFault.{FootFault}
use Rattle.footpaths.specs.declared.faults.FootFault.TheVariants as foot
use Rattle.timetable.specs.FaultWords.{words_of as net_words}
use Rattle.timetable.specs.declared.faults.NetFault.{NetFault}
use Rattle.timetable.specs.declared.faults.NetFault.TheVariants as net
use Rattle.workers.specs.FaultWords.{words_of as run_words}
use Rattle.workers.specs.declared.faults.RunFault.{RunFault}
use Rattle.workers.specs.declared.faults.RunFault.TheVariants as run
use Rattle.matrix_text.specs.FaultWords.{words_of as text_words}
use Rattle.matrix_text.specs.declared.faults.TextFault.{TextFault}
use Rattle.matrix_text.specs.declared.faults.TextFault.TheVariants as text
use Rattle.studies.specs.NamedFile.{NamedBytes}
use Rattle.studies.specs.declared.fault.StudyFault.{StudyFault}
use Rattle.studies.specs.declared.fault.StudyFault.TheVariants as fault
use Rattle.command_line.specs.Files.{words_of}
use Rattle.command_line.specs.declared.files.ReadFault.{ReadFault}
use Rattle.command_line.specs.declared.files.ReadFault.TheVariants as read
use Rattle.studies.specs.declared.inputs.Inputs.{Inputs}
use Rattle.command_line.specs.declared.task.Opt.{Opt}
use Rattle.command_line.specs.declared.task.Opt.TheVariants as opt
use Rattle.command_line.specs.declared.statuses.TheConstants.{NO_ROOM, NOT_MOVED, REFUSED, UNFINISHED}

-- ---- lines

-- a line: the program's name, the rest, LF
abbrev pub line : List ℕ → List ℕ
line rest = codes "ttm: " ++ rest ++ 10 ∷ []

-- out of memory, whatever had no room
abbrev pub no_memory : List ℕ
no_memory = codes "out of memory"

-- what is wrong with a record of a file
abbrev pub at_record : List ℕ → ℕ → List ℕ → List ℕ
at_record name at words = name ++ codes ": record " ++ decimal at ++ codes ": " ++ words

-- ---- a fault of the feed's tables

abbrev pub file_text : FileName → List ℕ
file_text file.Stops = codes "stops.txt"
file_text file.Routes = codes "routes.txt"
file_text file.Calendar = codes "calendar.txt"
file_text file.CalendarDates = codes "calendar_dates.txt"
file_text file.Trips = codes "trips.txt"
file_text file.StopTimes = codes "stop_times.txt"
file_text file.Frequencies = codes "frequencies.txt"
file_text file.Transfers = codes "transfers.txt"
file_text file.Footpaths = codes "footpaths.csv"
file_text file.Origins = codes "origins"
file_text file.Opportunities = codes "opportunities"
file_text file.Destinations = codes "destinations"

abbrev pub what_text : What → List ℕ
what_text what.MissingFile = codes "missing file"
what_text what.MissingColumn = codes "missing column"
what_text what.EmptyId = codes "empty id"
what_text what.DuplicateId = codes "duplicate id"
what_text what.UnknownStop = codes "unknown stop"
what_text what.UnknownRoute = codes "unknown route"
what_text what.UnknownTrip = codes "unknown trip"
what_text what.BadTime = codes "bad time"
what_text what.BadDate = codes "bad date"
what_text what.BadNumber = codes "bad number"
what_text what.NoTime = codes "no time"
what_text what.TimesGoBack = codes "times go back"
what_text what.TooMany = codes "too many"
what_text what.Memory = no_memory

-- a file that is missing has no record; out of memory has no file
abbrev pub feed_text : FileName → ℕ → What → List ℕ
feed_text f at what.MissingFile = file_text f ++ codes ": " ++ what_text what.MissingFile
feed_text f at what.Memory = no_memory
feed_text f at w = at_record (file_text f) at (what_text w)

-- ---- a fault of a scenario

-- the names of the scenario files
abbrev pub names_of : Inputs → List (List ℕ)
names_of i = map (λ (f : NamedBytes). f.name) i.scenarios.now

-- the name of a scenario file, counted from 0
abbrev pub file_name : List (List ℕ) → ℕ → List ℕ
file_name names k = unwrap_or (slice_get names k) []

-- the name of a scenario, counted from 0, which is the base network
abbrev pub scenario_name : List (List ℕ) → ℕ → List ℕ
scenario_name names zero = codes "base"
scenario_name names (suc k) = file_name names k

abbrev pub edit_text : ScenarioWhat → List ℕ
edit_text edit.UnknownAction = codes "unknown action"
edit_text edit.UnknownRoute = codes "unknown route"
edit_text edit.UnknownTrip = codes "unknown trip"
edit_text edit.BadNumber = codes "bad number"
edit_text edit.ShiftOutOfRange = codes "shift out of range"
edit_text edit.MissingColumn = codes "missing column"
edit_text edit.Memory = no_memory
edit_text edit.TooMany = codes "too many"

abbrev pub scenario_text : List ℕ → ℕ → ScenarioWhat → List ℕ
scenario_text name at edit.Memory = no_memory
scenario_text name at w = at_record (codes "scenario " ++ name) at (edit_text w)

-- ---- the other faults

-- of a scenario's network only that it is too large can be told; its stops and times are the feed's, which are sound
abbrev pub net_text : List ℕ → NetFault → List ℕ
net_text name net.Memory = no_memory
net_text name _ = codes "scenario " ++ name ++ codes ": " ++ net_words net.TooLarge

abbrev pub run_text : RunFault → List ℕ
run_text (run.Unfinished s o) = run_words (run.Unfinished s o) ++ codes ": scenario " ++ decimal s ++ codes
    ", origin " ++ decimal o
run_text f = run_words f

-- why there is no study
abbrev pub rest_of : StudyFault → List (List ℕ) → List ℕ
rest_of fault.Scenarios names = codes "too many scenarios"
rest_of (fault.Name k) names = codes "scenario name: " ++ file_name names k
rest_of (fault.Feed f) names = feed_text f.file f.at f.what
rest_of (fault.Scenario k f) names = scenario_text (file_name names k) f.at f.what
rest_of (fault.Days f) names = day_words f
rest_of (fault.Feet f) names = foot_words f
rest_of (fault.Net k f) names = net_text (scenario_name names k) f
rest_of (fault.Run f) names = run_text f
rest_of (fault.Text f) names = text_words f
rest_of fault.Memory names = no_memory

abbrev pub line_of : StudyFault → List (List ℕ) → List ℕ
line_of f names = line (rest_of f names)

-- why a file isn't read: out of memory has no path
abbrev pub path_rest : List ℕ → ReadFault → List ℕ
path_rest path read.Memory = no_memory
path_rest path f = path ++ codes ": " ++ words_of f

-- which option is bad
abbrev pub opt_text : Opt → List ℕ
opt_text opt.Date = codes "date"
opt_text opt.Window = codes "window"
opt_text opt.Trips = codes "trips"
opt_text opt.Walk = codes "walk"
opt_text opt.Share = codes "share"
opt_text opt.Within = codes "within"
opt_text opt.Workers = codes "workers"
opt_text opt.Tries = codes "tries"
opt_text opt.Back = codes "back"
opt_text opt.Ahead = codes "ahead"

-- ---- exit statuses

abbrev pub feed_status : What → ℕ
feed_status what.Memory = NO_ROOM
feed_status _ = REFUSED

abbrev pub edit_status : ScenarioWhat → ℕ
edit_status edit.Memory = NO_ROOM
edit_status _ = REFUSED

abbrev pub day_status : DayFault → ℕ
day_status day.Memory = NO_ROOM
day_status _ = REFUSED

abbrev pub foot_status : FootFault → ℕ
foot_status foot.Memory = NO_ROOM
foot_status _ = REFUSED

abbrev pub net_status : NetFault → ℕ
net_status net.Memory = NO_ROOM
net_status _ = REFUSED

abbrev pub run_status : RunFault → ℕ
run_status run.Memory = NO_ROOM
run_status run.Spawn = NO_ROOM
run_status (run.Unfinished s o) = UNFINISHED

abbrev pub text_status : TextFault → ℕ
text_status text.Write = NOT_MOVED
text_status text.Memory = NO_ROOM

abbrev pub status_of : StudyFault → ℕ
status_of fault.Scenarios = REFUSED
status_of (fault.Name k) = REFUSED
status_of (fault.Feed f) = feed_status f.what
status_of (fault.Scenario k f) = edit_status f.what
status_of (fault.Days f) = day_status f
status_of (fault.Feet f) = foot_status f
status_of (fault.Net k f) = net_status f
status_of (fault.Run f) = run_status f
status_of (fault.Text f) = text_status f
status_of fault.Memory = NO_ROOM

abbrev pub read_status : ReadFault → ℕ
read_status read.Read = NOT_MOVED
read_status read.TooLong = REFUSED
read_status read.Memory = NO_ROOM
