-- Which file of a disk is which input of a study, and which file is told where one isn't read.
-- "The files of the feed lie in its folder, each under its own name, and may be absent. A file that an option names has
-- to be there, and is what that option says; so have the scenario files, each named by its own path, in their order.
-- The first file that isn't read is told." (The program's own rule.)
use Rattle.std.specs.Prelude.{◌≡◌, ◌⊎◌, ◌++◌, ℕ, List, [], ◌∷◌, Option, Some, None, Ok, Err, ⊤, map, codes, option_map}
use Rattle.std.specs.Prelude.{string_bytes}
use Rattle.command_line.specs.Lines.{line, no_memory, path_rest, read_status}
use Rattle.outputs.specs.Outputs.{After, IsTold}
use Rattle.command_line.specs.Paths.{path_in, scenario_of}
use Rattle.command_line.specs.declared.files.ReadFault.{ReadFault}
use Rattle.command_line.specs.declared.files.ReadFault.TheVariants as read
use Rattle.command_line.specs.declared.statuses.TheConstants.{NO_ROOM}
use Rattle.command_line.specs.declared.task.Task.{Task}
use Rattle.gtfs_tables.specs.Files as files
use Rattle.studies.specs.FeedFiles.{files_read, no_files}
use Rattle.studies.specs.Inputs.{InputFiles}
use Rattle.studies.specs.NamedFile.{NamedBytes}
use Rattle.program.specs.Disk.{Found}
use Rattle.program.specs.declared.study_files.StudyFiles.{StudyFiles}
use Rattle.program.specs.declared.unread.Unread.{Unread}
use Rattle.program.specs.declared.unread.Unread.TheVariants as unread

-- what a read of a path may find: the bytes of a file, that there is none, or why it isn't read
abbrev pub Finds : Type 1
Finds = List ℕ → Found → Type 0

-- the files of the feed, each by its own name in the folder; one that isn't found is absent
pub record IsFeedIn (finds : Finds) (folder : List ℕ) (feed : files.FeedFiles) : Type 0 where
  pub stops : finds (path_in folder (codes "stops.txt")) (Ok feed.stops)
  pub routes : finds (path_in folder (codes "routes.txt")) (Ok feed.routes)
  pub calendar : finds (path_in folder (codes "calendar.txt")) (Ok feed.calendar)
  pub calendar_dates : finds (path_in folder (codes "calendar_dates.txt")) (Ok feed.calendar_dates)
  pub trips : finds (path_in folder (codes "trips.txt")) (Ok feed.trips)
  pub stop_times : finds (path_in folder (codes "stop_times.txt")) (Ok feed.stop_times)
  pub frequencies : finds (path_in folder (codes "frequencies.txt")) (Ok feed.frequencies)
  pub transfers : finds (path_in folder (codes "transfers.txt")) (Ok feed.transfers)

-- a file of the analyst's own is there exactly where its option is, and is found at the option's path
abbrev pub IsOwn : Finds → Option (List ℕ) → Option (List ℕ) → Type 0
IsOwn finds None None = ⊤
IsOwn finds (Some path) (Some bytes) = finds path (Ok (Some bytes))
IsOwn finds None (Some bytes) = ⊥
IsOwn finds (Some path) None = ⊥

-- the scenario files are found at their paths, in their order, each named by its own path
abbrev pub AreScenarios : Finds → List (List ℕ) → List NamedBytes → Type 0
AreScenarios finds [] [] = ⊤
AreScenarios finds (path ∷ paths) (file ∷ rest) =
    (file.name ≡ scenario_of path) × finds path (Ok (Some file.bytes)) × AreScenarios finds paths rest
AreScenarios finds [] (file ∷ rest) = ⊥
AreScenarios finds (path ∷ paths) [] = ⊥

-- the files of a study are those that its paths name
pub record AreNamed (finds : Finds) (task : Task) (i : InputFiles) : Type 0 where
  pub feed : IsFeedIn finds (string_bytes task.feed) i.feed
  pub footpaths : IsOwn finds (option_map string_bytes task.footpaths) i.footpaths
  pub origins : IsOwn finds (option_map string_bytes task.origins) i.origins
  pub opportunities : IsOwn finds (option_map string_bytes task.opportunities) i.opportunities
  pub destinations : IsOwn finds (option_map string_bytes task.destinations) i.destinations
  pub scenarios : AreScenarios finds (map string_bytes task.scenarios.items) i.scenarios

-- the files as the program holds them
abbrev pub files_of : StudyFiles → InputFiles
files_of f = record {
  feed = files_read f.feed;
  footpaths = option_map (λ bytes. bytes.items) f.footpaths;
  origins = option_map (λ bytes. bytes.items) f.origins;
  opportunities = option_map (λ bytes. bytes.items) f.opportunities;
  destinations = option_map (λ bytes. bytes.items) f.destinations;
  scenarios = f.scenarios.items;
}

-- the bytes of all files but the scenarios' are freed
pub record AreFreed (f : StudyFiles) : Type 0 where
  pub feed : files_read f.feed ≡ no_files
  pub footpaths : f.footpaths ≡ None
  pub origins : f.origins ≡ None
  pub opportunities : f.opportunities ≡ None
  pub destinations : f.destinations ≡ None

-- ---- where a file isn't read

-- a line is told, or the one that says that there was no memory for it
abbrev pub TellsLine : Option (List ℕ) → After → List ℕ → Type 0
TellsLine old new l = IsTold old new l ⊎ IsTold old new (line no_memory)

-- a path that is asked for: a file may be there, or has to be
pub data Ask : Type 0 where
  Optional : List ℕ → Ask
  Needed : List ℕ → Ask

abbrev pub path_of : Ask → List ℕ
path_of (Optional path) = path
path_of (Needed path) = path

-- the paths that a study asks for, in their order: the feed's, the analyst's own, the scenarios'
abbrev pub feed_asks : List ℕ → List Ask
feed_asks folder =
    Optional (path_in folder (codes "stops.txt")) ∷ Optional (path_in folder (codes "routes.txt")) ∷ Optional
    (path_in folder (codes "calendar.txt"))
    ∷ Optional (path_in folder (codes "calendar_dates.txt")) ∷ Optional (path_in folder (codes "trips.txt")) ∷ Optional
    (path_in folder (codes "stop_times.txt"))
    ∷ Optional (path_in folder (codes "frequencies.txt")) ∷ Optional (path_in folder (codes "transfers.txt")) ∷ []

abbrev pub own_asks : Option (List ℕ) → List Ask
own_asks None = []
own_asks (Some path) = Needed path ∷ []

abbrev pub scenario_asks : List (List ℕ) → List Ask
scenario_asks paths = map Needed paths

abbrev pub asks_of : Task → List Ask
asks_of task =
    feed_asks (string_bytes task.feed) ++ (own_asks
    (option_map string_bytes task.footpaths) ++ (own_asks (option_map string_bytes task.origins)
    ++ (own_asks (option_map string_bytes task.opportunities) ++ (own_asks (option_map string_bytes task.destinations)
    ++ scenario_asks (map string_bytes task.scenarios.items)))))

-- the file of a path is read, or is absent where it may be
abbrev pub IsRead : Finds → Ask → Type 0
IsRead finds (Optional path) = (file : Option (List ℕ)) × finds path (Ok file)
IsRead finds (Needed path) = (bytes : List ℕ) × finds path (Ok (Some bytes))

-- it isn't read: this fault was met there, or there is none where one has to be, which is a read fault
abbrev pub Fails : Finds → Ask → ReadFault → Type 0
Fails finds (Optional path) fault = finds path (Err fault)
Fails finds (Needed path) fault = finds path (Err fault) ⊎ ((fault ≡ read.Read) × finds path (Ok None))

-- of these paths this is the first whose file isn't read, by this fault
abbrev pub IsFirstUnread : Finds → List Ask → List ℕ → ReadFault → Type 0
IsFirstUnread finds [] path fault = ⊥
IsFirstUnread finds (ask ∷ asks) path fault =
    ((path ≡ path_of ask) × Fails finds ask fault) ⊎ (IsRead finds ask × IsFirstUnread finds asks path fault)

-- a reader names the first of these paths whose file isn't read, with its fault
abbrev pub NamesUnread : Finds → List Ask → Unread → Type 0
NamesUnread finds asks (unread.Feed path fault) = IsFirstUnread finds asks (string_bytes path) fault
NamesUnread finds asks (unread.Own path fault) = IsFirstUnread finds asks path.now fault
NamesUnread finds asks unread.Memory = ⊥

-- so it does, or memory was short for a path or a name
abbrev pub IsWhyUnread : Finds → List Ask → Unread → Type 0
IsWhyUnread finds asks u = NamesUnread finds asks u ⊎ (u ≡ unread.Memory)

-- it is told why the first file of these paths that isn't read isn't, with the status of that
pub record IsUnread (finds : Finds) (asks : List Ask) (err : Option (List ℕ)) (told : After) (status : ℕ) : Type 0
  where
    pub path : List ℕ
    pub fault : ReadFault
    pub first : IsFirstUnread finds asks path fault
    pub line_is : TellsLine err told (line (path_rest path fault))
    pub status_is : status ≡ read_status fault

-- out of memory is told, with its status
pub record IsShort (err : Option (List ℕ)) (told : After) (status : ℕ) : Type 0 where
  pub line_is : IsTold err told (line no_memory)
  pub status_is : status ≡ NO_ROOM

-- the files of these paths aren't all read, and it is told why; or memory was short for a path or a name
abbrev pub AreUnread : Finds → List Ask → Option (List ℕ) → After → ℕ → Type 0
AreUnread finds asks err told status = IsUnread finds asks err told status ⊎ IsShort err told status

-- why the files aren't all read is told, with its status
abbrev pub TellsWhyUnread : Unread → Option (List ℕ) → After → ℕ → Type 0
TellsWhyUnread (unread.Feed path fault) err told status =
    TellsLine err told (line (path_rest (string_bytes path) fault)) × (status ≡ read_status fault)
TellsWhyUnread (unread.Own path fault) err told status =
    TellsLine err told (line (path_rest path.now fault)) × (status ≡ read_status fault)
TellsWhyUnread unread.Memory err told status = IsShort err told status
