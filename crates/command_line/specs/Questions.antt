-- The questions of a conversation: which options one may name, and what its words ask for beside the command line.
-- "A question names options that can differ from question to question, each once at most; what it doesn't name is as on
-- the command line. The first option that is bad is told." (The program's own rules; how words are split into options
-- is the rule of the `clap` crate.)
use Rattle.std.specs.Prelude.{◌≡◌, ◌++◌, ◌==◌, ◌+◌, ◌-◌, ℕ, List, [], ◌∷◌, Option, Some, None, true, codes, ⊤}
use Rattle.std.specs.Prelude.{false, option_and_then, option_map, string_bytes, if◌then◌else◌}
use Rattle.clap.specs.Words.{App, HasKind, Row, Rule, Text, fault_of, matches_of, new_app, takes}
use Rattle.table_records.specs.Faults.{IsFirst}
use Rattle.studies.specs.Kept.{lasting_settings}
use Rattle.studies.specs.declared.settings.Settings.{Settings}
use Rattle.work_book.specs.declared.limits.TheConstants.{MOST_TRIES}
use Rattle.rounds.specs.declared.window.TheConstants.{MOST_RIDES}
use Rattle.studies.specs.declared.limits.TheConstants.{MOST_WORKERS}
use Rattle.command_line.specs.Lines.{line, no_memory, opt_text}
use Rattle.command_line.specs.Window.{minute_of, minutes_between}
use Rattle.command_line.specs.Words.{list_in, number_in, optional, shares_in, text_at, unless, with_rules}
use Rattle.command_line.specs.declared.statuses.TheConstants.{NO_ROOM, REFUSED}
use Rattle.command_line.specs.declared.task.Opt.{Opt}
use Rattle.command_line.specs.declared.task.Opt.TheVariants as opt
use Rattle.command_line.specs.declared.task.QuestionTask.{QuestionTask}
use Rattle.command_line.specs.declared.task.WordFault.{WordFault}
use Rattle.command_line.specs.declared.task.WordFault.TheVariants as fault

-- ---- the options

-- the departures, the journeys and what is told of them, the run, and the files of points
abbrev pub question_rules : List Rule
question_rules =
    optional (codes "from") ∷ optional (codes "to") ∷ optional (codes "trips") ∷ optional (codes "share") ∷ optional
    (codes "within") ∷ optional (codes "workers")
    ∷ optional (codes "tries") ∷ optional (codes "origins") ∷ optional (codes "opportunities") ∷ optional
    (codes "destinations") ∷ []

-- a command whose words are all its arguments, and that has no help to tell
abbrev pub with_words_alone : App → App
with_words_alone a = record a { top = record a.top { no_binary_name = true; disable_help_flag = true } }

abbrev pub question_app : App
question_app = with_rules (with_words_alone (new_app (codes "ttm"))) question_rules

-- what the words of a question give each option, by `clap`
abbrev pub rows_of_question : List Text → List Row
rows_of_question words = matches_of question_app words

-- ---- the settings

-- the value of a text, where there is one, and else what stays
abbrev pub over : {X : Type 0} → (Option Text → Option X) → Option Text → X → Option X
over read None stays = Some stays
over read (Some text) stays = read (Some text)

abbrev pub minute_over : Option Text → ℕ → Option ℕ
minute_over text stays = over (option_and_then minute_of) text stays

abbrev pub window_over : List Row → Settings → Option (ℕ × ℕ)
window_over rows s = option_and_then (λ first. option_and_then (minutes_between first)
    (minute_over (text_at rows (codes "to")) (s.first + s.minutes - 1))) (minute_over (text_at rows (codes "from"))
    s.first)

abbrev pub trips_over : List Row → Settings → Option ℕ
trips_over rows s = over (number_in 1 MOST_RIDES) (text_at rows (codes "trips")) s.rides

abbrev pub shares_over : List Row → Settings → Option (List ℕ)
shares_over rows s = over shares_in (text_at rows (codes "share")) s.shares

abbrev pub withins_over : List Row → Settings → Option (List ℕ)
withins_over rows s = over list_in (text_at rows (codes "within")) s.withins

abbrev pub workers_over : List Row → Settings → Option ℕ
workers_over rows s = over (number_in 1 MOST_WORKERS) (text_at rows (codes "workers")) s.workers

abbrev pub tries_over : List Row → Settings → Option ℕ
tries_over rows s = over (number_in 1 MOST_TRIES) (text_at rows (codes "tries")) s.tries

-- each setting is the value of its text, or the command line's; the days and the longest walk are the command line's
pub record IsAskedOver (rows : List Row) (base s : Settings) : Type 0 where
  pub lasting : lasting_settings s ≡ lasting_settings base
  pub window : window_over rows base ≡ Some (s.first, s.minutes)
  pub rides : trips_over rows base ≡ Some s.rides
  pub shares : shares_over rows base ≡ Some s.shares
  pub withins : withins_over rows base ≡ Some s.withins
  pub workers : workers_over rows base ≡ Some s.workers
  pub tries : tries_over rows base ≡ Some s.tries

-- each path of the question's own files is its text
pub record NamesFiles (rows : List Row) (q : QuestionTask) : Type 0 where
  pub origins : text_at rows (codes "origins") ≡ option_map string_bytes q.origins
  pub opportunities : text_at rows (codes "opportunities") ≡ option_map string_bytes q.opportunities
  pub destinations : text_at rows (codes "destinations") ≡ option_map string_bytes q.destinations

-- what the words of a question ask for, beside the command line
pub record Asks (words : List Text) (base : Settings) (q : QuestionTask) : Type 0 where
  pub taken : fault_of question_app words ≡ []
  pub settings : IsAskedOver (rows_of_question words) base q.settings
  pub paths : NamesFiles (rows_of_question words) q

-- ---- what is wrong

-- the options that are bad, in the order in which they are looked at
abbrev pub bad_options_over : List Row → Settings → List Opt
bad_options_over rows s =
    unless opt.Window (window_over rows s) ++ unless opt.Trips (trips_over rows s) ++ unless opt.Share
    (shares_over rows s) ++ unless opt.Within (withins_over rows s)
    ++ unless opt.Workers (workers_over rows s) ++ unless opt.Tries (tries_over rows s)

-- what is wrong with the words: they aren't of a question
abbrev pub TellsUntaken : WordFault → List Text → Type 0
TellsUntaken (fault.Words e) words = (takes question_app words ≡ false) × HasKind (fault_of question_app words) e
TellsUntaken (fault.Bad o) words = ⊥
TellsUntaken fault.Memory words = ⊤

-- ... or they are, and this option is the first bad one
abbrev pub TellsQuestion : WordFault → List Text → Settings → Type 0
TellsQuestion (fault.Words e) words s = TellsUntaken (fault.Words e) words
TellsQuestion (fault.Bad o) words s =
    (fault_of question_app words ≡ []) × IsFirst o (bad_options_over (rows_of_question words) s)
TellsQuestion fault.Memory words s = ⊤

abbrev pub question_status_of : WordFault → ℕ
question_status_of (fault.Words e) = REFUSED
question_status_of (fault.Bad o) = REFUSED
question_status_of fault.Memory = NO_ROOM

-- the first line of a text, with LF at its end
abbrev pub first_line : List ℕ → List ℕ
first_line [] = 10 ∷ []
first_line (b ∷ bs) = if b == 10 then 10 ∷ [] else b ∷ first_line bs

-- the line that tells a fault: of words that aren't of a question it is the first of what `clap` says
abbrev pub IsQuestionLine : WordFault → List ℕ → Type 0
IsQuestionLine (fault.Words e) told = (text : List ℕ) × (told ≡ first_line text)
IsQuestionLine (fault.Bad o) told = told ≡ line (codes "bad " ++ opt_text o)
IsQuestionLine fault.Memory told = told ≡ line no_memory
