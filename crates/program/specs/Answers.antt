-- What the program leaves behind: what its two outputs hold, the exit status, and what is left of the standard input,
-- which a conversation alone reads.
-- "The whole matrix and status 0; or one line that tells why there is none, with the status of what it tells. Help and
-- the version go out whole, with status 0, or their loss is told." (The program's own rule.)
use Rattle.std.specs.Prelude.{◌≡◌, ◌≢◌, ◌≤◌, ◌⊎◌, ◌++◌, ℕ, List, Option, Ok, Err, true, false, codes, length, map}
use Rattle.std.specs.Io.KnownBytes.{Appends}
use Rattle.std.specs.IoError.{error_kind}
use Rattle.std.specs.declared.io.Error.{Error}
use Rattle.std.specs.declared.io.ErrorKind.{ErrorKind}
use Rattle.std.specs.declared.io.ErrorKind.TheVariants.{OutOfMemory}
use Rattle.clap.specs.Words.{Text}
use Rattle.command_line.specs.Lines.{line, line_of, opt_text, status_of}
use Rattle.outputs.specs.Outputs.{After, IsLost, IsTold}
use Rattle.command_line.specs.Words.{IsAsked, NamesFiles, is_conversation, rows_of_words, word_status_of}
use Rattle.command_line.specs.Words.{Tells as TellsWords}
use Rattle.command_line.specs.declared.statuses.TheConstants.{DONE, NOT_MOVED, REFUSED}
use Rattle.command_line.specs.declared.task.Task.{Task}
use Rattle.command_line.specs.declared.task.WordFault.{WordFault}
use Rattle.command_line.specs.declared.task.WordFault.TheVariants as word
use Rattle.matrix_text.specs.declared.faults.TextFault.TheVariants as text
use Rattle.studies.specs.Inputs.{InputFiles}
use Rattle.studies.specs.NamedFile.{NamedBytes}
use Rattle.studies.specs.Study.{IsStudyText, Tells, TellsBy}
use Rattle.studies.specs.declared.fault.StudyFault.{StudyFault}
use Rattle.studies.specs.declared.fault.StudyFault.TheVariants as fault
use Rattle.studies.specs.declared.settings.Settings.{Settings}
use Rattle.workers.specs.Held.{Decides, WasTold}
use Rattle.program.specs.Example.{IsExampleSettings, example_files}
use Rattle.program.specs.Gates.{told_anything, works_at_each}
use Rattle.program.specs.Talk.{EndsTalk, IsWhole}
use Rattle.program.specs.Files.{AreNamed, AreUnread, Finds, IsShort, TellsLine, asks_of}
use Rattle.program.specs.Words.{Gives}

-- the whole matrix of the study that the files and settings mean is out
pub record IsPrinted (i : InputFiles) (s : Settings) (out printed : Option (List ℕ)) : Type 0 where
  pub text : List ℕ
  pub text_is : IsStudyText i s text
  pub whole : Appends out printed text

-- a fault's line is told, with its status
pub record TellsFault (e : StudyFault) (i : InputFiles) (err : Option (List ℕ)) (told : After) (status : ℕ) : Type 0
  where
    pub line_is : TellsLine err told (line_of e (map (λ (f : NamedBytes). f.name) i.scenarios))
    pub status_is : status ≡ status_of e

-- no more than a part of the matrix is out, for a call of the output broke
pub record IsCutShort (i : InputFiles) (s : Settings) (out : Option (List ℕ)) (printed : After) : Type 0 where
  pub text : List ℕ
  pub text_is : IsStudyText i s text
  pub lost : IsLost out printed text

-- why the matrix isn't out whole: the first fault of the inputs, or out of memory, or a run of workers that gave no
-- matrix, where a gate decides so of the leases, and nothing is out; or a call of the output broke
abbrev pub IsWhy : Decides → WasTold → StudyFault → InputFiles → Settings → Option (List ℕ) → After → Type 0
IsWhy decides was_told e i s out printed =
    ((printed.held ≡ out) × TellsBy decides was_told e i s)
    ⊎ ((e ≡ fault.Text text.Write) × IsCutShort i s out printed)

-- the matrix isn't out whole, and it is told why
pub record IsRefused (i : InputFiles) (s : Settings) (out : Option (List ℕ)) (printed : After) (err : Option (List ℕ))
    (told : After) (status : ℕ) : Type 0
  where
    pub fault : StudyFault
    pub why : IsWhy works_at_each told_anything fault i s out printed
    pub is_told : TellsFault fault i err told status

-- what a study leaves behind
abbrev pub IsAnswered : InputFiles → Settings → Option (List ℕ) → After → Option (List ℕ) → After → ℕ → Type 0
IsAnswered i s out printed err told status =
    ((status ≡ DONE) × IsPrinted i s out printed.held) ⊎ IsRefused i s out printed err told status

-- ---- what status 0 says of a run of the program

-- for these files the whole matrix of a task is out, or the whole conversation where the task is one
abbrev pub IsDoneOf : Finds → InputFiles → Task → Option (List ℕ) → Option (List ℕ) → Option (List ℕ) →
    Option (List ℕ) → Type 0
IsDoneOf finds files task known left out printed =
    ((task.asks ≡ false) × IsPrinted files task.settings out printed)
    ⊎ ((task.asks ≡ true) × IsWhole finds files task.settings known left out printed)

-- for the files that are found at its paths
pub record IsDone (finds : Finds) (task : Task) (known left out printed : Option (List ℕ)) : Type 0 where
  pub files : InputFiles
  pub named : AreNamed finds task files
  pub whole : IsDoneOf finds files task known left out printed

-- the words ask for a task: its settings and its paths are theirs, and so is whether it is a conversation
pub record IsTaskOf (words : List Text) (task : Task) : Type 0 where
  pub asked : IsAsked (rows_of_words words) task.settings
  pub paths : NamesFiles (rows_of_words words) task
  pub asks : task.asks ≡ is_conversation (rows_of_words words)

-- the words ask for a task, and it is done
pub record IsStudied (finds : Finds) (words : List Text) (known left out printed : Option (List ℕ)) : Type 0 where
  pub task : Task
  pub asked : IsTaskOf words task
  pub made : IsDone finds task known left out printed

-- the words ask for no study, and that is no fault: they ask for help or the version, and the whole of a text is out
pub record IsHelped (words : List Text) (out printed : Option (List ℕ)) : Type 0 where
  pub fault : WordFault
  pub told : TellsWords fault words
  pub no_fault : word_status_of fault ≡ DONE
  pub text : List ℕ
  pub whole : Appends out printed text

-- the whole matrix or conversation that the words ask for is out, or the help or the version that they ask for
abbrev pub Succeeds : Finds → List Text → Option (List ℕ) → Option (List ℕ) → Option (List ℕ) → Option (List ℕ) →
    Type 0
Succeeds finds words known left out printed =
    IsStudied finds words known left out printed ⊎ IsHelped words out printed

-- the whole matrix of the study that the program carries is out
abbrev pub IsExample : Option (List ℕ) → Option (List ℕ) → Type 0
IsExample out printed = (s : Settings) × IsExampleSettings s × IsPrinted example_files s out printed

-- without words but the program's name, the whole matrix of a study of its own is out; with words they succeed
abbrev pub EndsWell : Finds → List Text → Option (List ℕ) → Option (List ℕ) → Option (List ℕ) → Option (List ℕ) →
    Type 0
EndsWell finds words known left out printed =
    ((length words ≤ 1) × IsExample out printed) ⊎ ((2 ≤ length words) × Succeeds finds words known left out printed)

-- ---- what a run of the program leaves behind, whatever its status

-- nothing is put out, and out of memory is told
abbrev pub GivesUp : Option (List ℕ) → After → Option (List ℕ) → After → ℕ → Type 0
GivesUp out printed err told status = (printed.held ≡ out) × IsShort err told status

-- the program's own study is answered; or memory was short for its settings
abbrev pub EndsExample : Option (List ℕ) → After → Option (List ℕ) → After → ℕ → Type 0
EndsExample out printed err told status =
    ((s : Settings) × IsExampleSettings s × IsAnswered example_files s out printed err told status)
    ⊎ GivesUp out printed err told status

-- the files of a conversation are refused, or memory was short for what is kept of them, and it is told why
pub record IsNotKept (i : InputFiles) (s : Settings) (out : Option (List ℕ)) (printed : After) (err : Option (List ℕ))
    (told : After) (status : ℕ) : Type 0
  where
    pub fault : StudyFault
    pub why : Tells fault i s
    pub is_told : TellsFault fault i err told status
    pub nothing_out : printed.held ≡ out

-- nothing can be kept of the files, or questions of what is kept are answered
abbrev pub EndsConversation : Finds → InputFiles → Settings → Option (List ℕ) → Option (List ℕ) → Option (List ℕ) →
    After → Option (List ℕ) → After → ℕ → Type 0
EndsConversation finds i s known left out printed err told status =
    IsNotKept i s out printed err told status ⊎ EndsTalk finds i s known left out printed err told status

-- the study of a task is answered, or the questions of its conversation
abbrev pub EndsFiles : Finds → InputFiles → Task → Option (List ℕ) → Option (List ℕ) → Option (List ℕ) → After →
    Option (List ℕ) → After → ℕ → Type 0
EndsFiles finds files task known left out printed err told status =
    ((task.asks ≡ false) × IsAnswered files task.settings out printed err told status)
    ⊎ ((task.asks ≡ true) × EndsConversation finds files task.settings known left out printed err told status)

-- of a task it is told which of its files isn't read first, and nothing is put out; or its study is answered, or the
-- questions of its conversation
abbrev pub EndsTask : Finds → Task → Option (List ℕ) → Option (List ℕ) → Option (List ℕ) → After → Option (List ℕ) →
    After → ℕ → Type 0
EndsTask finds task known left out printed err told status =
    ((printed.held ≡ out) × AreUnread finds (asks_of task) err told status)
    ⊎ ((files : InputFiles) × AreNamed finds task files
    × EndsFiles finds files task known left out printed err told status)

-- a text is put out whole, and nothing is told; or it is lost in part, which is a write fault
abbrev pub IsShown : List ℕ → Option (List ℕ) → After → Option (List ℕ) → After → ℕ → Type 0
IsShown text out printed err told status =
    ((status ≡ DONE) × Appends out printed.held text × (told.held ≡ err))
    ⊎ ((status ≡ NOT_MOVED) × IsLost out printed text × IsTold err told (line (codes "write fault")))

-- a text is told, with this status, and nothing is put out
abbrev pub IsSaid : List ℕ → (wanted : ℕ) → Option (List ℕ) → After → Option (List ℕ) → After → ℕ → Type 0
IsSaid text wanted out printed err told status = (status ≡ wanted) × (printed.held ≡ out) × IsTold err told text

-- a text is shown where its status is that of help, and else told
abbrev pub IsPut : List ℕ → (wanted : ℕ) → Option (List ℕ) → After → Option (List ℕ) → After → ℕ → Type 0
IsPut text wanted out printed err told status =
    ((wanted ≡ DONE) × IsShown text out printed err told status)
    ⊎ ((wanted ≢ DONE) × IsSaid text wanted out printed err told status)

-- so is what `clap` says of the words; or memory was short for it
abbrev pub EndsText : (wanted : ℕ) → Option (List ℕ) → After → Option (List ℕ) → After → ℕ → Type 0
EndsText wanted out printed err told status =
    ((text : List ℕ) × IsPut text wanted out printed err told status) ⊎ GivesUp out printed err told status

-- what is left behind of words that ask for no study
abbrev pub EndsFault : WordFault → Option (List ℕ) → After → Option (List ℕ) → After → ℕ → Type 0
EndsFault (word.Words e) out printed err told status =
    EndsText (word_status_of (word.Words e)) out printed err told status
EndsFault (word.Bad o) out printed err told status =
    IsSaid (line (codes "bad " ++ opt_text o)) (word_status_of (word.Bad o)) out printed err told status
EndsFault word.Memory out printed err told status = GivesUp out printed err told status

-- the words ask for a task, and what is left behind is that task's; or it is that of what is wrong with them
abbrev pub EndsWords : Finds → List Text → Option (List ℕ) → Option (List ℕ) → Option (List ℕ) → After →
    Option (List ℕ) → After → ℕ → Type 0
EndsWords finds words known left out printed err told status =
    ((task : Task) × IsTaskOf words task × EndsTask finds task known left out printed err told status)
    ⊎ ((fault : WordFault) × TellsWords fault words × EndsFault fault out printed err told status)

-- without words but the program's name its own study is answered, and with words what they ask for
abbrev pub Ends : Finds → List Text → Option (List ℕ) → Option (List ℕ) → Option (List ℕ) → After → Option (List ℕ) →
    After → ℕ → Type 0
Ends finds words known left out printed err told status =
    ((length words ≤ 1) × EndsExample out printed err told status)
    ⊎ ((2 ≤ length words) × EndsWords finds words known left out printed err told status)

-- why the words can't be had is told: out of memory, or one of them isn't UTF-8
abbrev pub TellsUnread : ErrorKind → Option (List ℕ) → After → ℕ → Type 0
TellsUnread OutOfMemory err told status = IsShort err told status
TellsUnread _ err told status = (status ≡ REFUSED) × IsTold err told (line (codes "words that are not UTF-8"))

-- the words that the host gives are answered, or memory was short for them; or it gives none, and that is told
abbrev pub EndsRun : Gives → Finds → Option (List ℕ) → Option (List ℕ) → Option (List ℕ) → After → Option (List ℕ) →
    After → ℕ → Type 0
EndsRun gives finds known left out printed err told status =
    ((words : List Text) × gives (Ok words)
    × (Ends finds words known left out printed err told status ⊎ GivesUp out printed err told status))
    ⊎ ((e : Error) × gives (Err e) × (printed.held ≡ out) × TellsUnread (error_kind e) err told status)
