-- The command line of a study: its options, and what their texts ask for.
-- "Options have one text each; the flags of a report and of a conversation have none. A date is YYYYMMDD, a window two
-- times of the day, the shares and the limits of access are lists of numbers, all else is a number within its limits;
-- spaces around a number or a date don't count. The first option that is bad is told." (The program's own rules; how
-- words are split into options is the rule of the `clap` crate.)
use Rattle.std.specs.Prelude.{◌≡◌, ◌&&◌, ◌++◌, ℕ, ℤ, Bool, true, false, nat_le, List, [], ◌∷◌, map, Option, Some, None}
use Rattle.std.specs.Prelude.{option_map, option_and_then, unwrap_or, codes, ⊤, string_bytes, if◌then◌else◌}
use Rattle.std.specs.List.{list_all}
use Rattle.std.specs.Option.{option_map_or}
use Rattle.std.specs.Str.{bytes_eq}
use Rattle.clap.specs.Words.{App, Rule, Row, Text, new_app, new_rule, with_rule, matches_of, first_of, all_of, kind_of}
use Rattle.clap.specs.Words.{HasKind, fault_of, takes}
use Rattle.clap.specs.Lexer.{usize_max}
use Rattle.clap.specs.declared.builder.action.ArgAction.TheVariants.{Set, SetTrue, Append}
use Rattle.clap.specs.declared.error.kind.ErrorKind.{ErrorKind}
use Rattle.clap.specs.declared.error.kind.ErrorKind.TheVariants.{DisplayHelp, DisplayVersion}
use Rattle.jiff.specs.Words.{epoch_day}
use Rattle.table_records.specs.Fields.{trimmed, number_of, day_of}
use Rattle.table_records.specs.Faults.{IsFirst}
use Rattle.command_line.specs.Numbers.{numbers_of}
use Rattle.command_line.specs.Window.{window_between}
use Rattle.command_line.specs.declared.statuses.TheConstants.{DONE, NO_ROOM, REFUSED}
use Rattle.studies.specs.declared.limits.TheConstants.{MOST_DAYS, MOST_WORKERS}
use Rattle.studies.specs.declared.settings.Settings.{Settings}
use Rattle.timetable.specs.declared.limits.TheConstants.{MOST_FOOT_SECONDS}
use Rattle.work_book.specs.declared.limits.TheConstants.{MOST_TRIES}
use Rattle.workers.specs.Study.{is_share}
use Rattle.rounds.specs.declared.window.TheConstants.{MOST_RIDES}
use Rattle.command_line.specs.declared.option_text.OptionText.{OptionText}
use Rattle.command_line.specs.declared.task.Opt.{Opt}
use Rattle.command_line.specs.declared.task.Opt.TheVariants as opt
use Rattle.command_line.specs.declared.task.Task.{Task}
use Rattle.command_line.specs.declared.task.WordFault.{WordFault}
use Rattle.command_line.specs.declared.task.WordFault.TheVariants as fault

-- ---- the command

-- an option with one text as value
abbrev pub option_rule : Bool → Text → Rule
option_rule required name = record (new_rule name) {
  long = Some name;
  action = Some Set;
  value_names = 1;
  required = required;
}

-- an option that must be given, and one that may be
abbrev pub needed : Text → Rule
needed name = option_rule true name

abbrev pub optional : Text → Rule
optional name = option_rule false name

-- an option of the table, which must be given where the table says so and `must` is true
abbrev pub rule_in : Bool → OptionText → Rule
rule_in must option = option_rule (must && option.is_needed) option.name.now

-- a flag, which has no text
abbrev pub flag_rule : Text → Rule
flag_rule name = record (new_rule name) { long = Some name; action = Some SetTrue }

-- the flag that asks for a report, and the one that asks for a conversation
abbrev pub report_rule : Rule
report_rule = flag_rule (codes "report")

abbrev pub ask_rule : Rule
ask_rule = flag_rule (codes "ask")

-- the scenario files: the words that belong to no option
abbrev pub scenario_rule : Rule
scenario_rule = record (new_rule (codes "scenario")) {
  action = Some Append;
  range = Some (record { start_inclusive = 0; end_inclusive = usize_max });
  value_names = 1;
}

-- a command that has a version to tell
abbrev pub with_version : App → App
with_version a = record a { top = record a.top { has_version = true } }

-- a command with more rules, one after another
abbrev pub with_rules : App → List Rule → App
with_rules a [] = a
with_rules a (r ∷ rs) = with_rules (with_rule a r) rs

-- the options: the feed and the departures; the journeys and what is told of them; the run, and the service days beside
-- that of the date; the analyst's own files
abbrev pub option_rules : List Rule
option_rules =
    needed (codes "feed") ∷ needed (codes "date") ∷ needed (codes "from") ∷ needed (codes "to") ∷ needed
    (codes "trips") ∷ needed (codes "walk")
    ∷ needed (codes "share") ∷ needed (codes "within") ∷ needed (codes "workers") ∷ needed (codes "tries") ∷ optional
    (codes "back")
    ∷ optional (codes "ahead") ∷ optional (codes "origins") ∷ optional (codes "opportunities") ∷ optional
    (codes "destinations") ∷ optional (codes "footpaths") ∷ []

abbrev pub study_app : App
study_app =
    with_rule (with_rule (with_rule (with_rules (with_version (new_app (codes "ttm"))) option_rules) report_rule)
    ask_rule) scenario_rule

-- what the words give each option, by `clap`
abbrev pub rows_of_words : List Text → List Row
rows_of_words words = matches_of study_app words

-- ---- the texts

-- the text of an option
abbrev pub text_at : List Row → Text → Option Text
text_at rows id = first_of id rows

-- the texts of all words that belong to no option
abbrev pub scenarios_at : List Row → List Text
scenarios_at rows = unwrap_or (all_of (codes "scenario") rows) []

-- whether the words have a flag: `clap` gives it the text "true" where they have it, and else "false"
abbrev pub has_flag : List Row → Text → Bool
has_flag rows id = option_map_or (λ t. bytes_eq t (codes "true")) (text_at rows id) false

-- whether a report is asked for, and whether a conversation is
abbrev pub is_reported : List Row → Bool
is_reported rows = has_flag rows (codes "report")

abbrev pub is_conversation : List Row → Bool
is_conversation rows = has_flag rows (codes "ask")

-- the day of a text
abbrev pub day_in : Option Text → Option ℤ
day_in text = option_and_then (λ t. day_of (trimmed t)) text

-- the first minute of the day and the number of minutes that two texts give
abbrev pub window_in : Option Text → Option Text → Option (ℕ × ℕ)
window_in from to = option_and_then (λ f. option_and_then (λ t. window_between f t) to) from

-- the number of a text, if it is within its limits
abbrev pub number_in : ℕ → ℕ → Option Text → Option ℕ
number_in low high text =
    option_and_then (λ t. option_and_then (λ n. if nat_le low n && nat_le n high then Some n else None)
    (number_of (trimmed t))) text

-- the numbers that a text lists
abbrev pub list_in : Option Text → Option (List ℕ)
list_in text = option_and_then (λ t. numbers_of t) text

-- the shares that a text lists
abbrev pub shares_in : Option Text → Option (List ℕ)
shares_in text = option_and_then (λ shares. if list_all is_share shares then Some shares else None) (list_in text)

-- one day where no text says how many
abbrev pub or_one : Option Text → Option Text
or_one text = Some (unwrap_or text (codes "1"))

-- ---- the settings

abbrev pub date_of : List Row → Option ℤ
date_of rows = day_in (text_at rows (codes "date"))

abbrev pub window_of : List Row → Option (ℕ × ℕ)
window_of rows = window_in (text_at rows (codes "from")) (text_at rows (codes "to"))

abbrev pub trips_of : List Row → Option ℕ
trips_of rows = number_in 1 MOST_RIDES (text_at rows (codes "trips"))

abbrev pub walk_of : List Row → Option ℕ
walk_of rows = number_in 0 MOST_FOOT_SECONDS (text_at rows (codes "walk"))

abbrev pub shares_of : List Row → Option (List ℕ)
shares_of rows = shares_in (text_at rows (codes "share"))

abbrev pub withins_of : List Row → Option (List ℕ)
withins_of rows = list_in (text_at rows (codes "within"))

abbrev pub workers_of : List Row → Option ℕ
workers_of rows = number_in 1 MOST_WORKERS (text_at rows (codes "workers"))

abbrev pub tries_of : List Row → Option ℕ
tries_of rows = number_in 1 MOST_TRIES (text_at rows (codes "tries"))

abbrev pub back_of : List Row → Option ℕ
back_of rows = number_in 0 MOST_DAYS (or_one (text_at rows (codes "back")))

abbrev pub ahead_of : List Row → Option ℕ
ahead_of rows = number_in 0 MOST_DAYS (or_one (text_at rows (codes "ahead")))

-- each setting is the value of its text
pub record IsAsked (rows : List Row) (s : Settings) : Type 0 where
  pub date : date_of rows ≡ Some (epoch_day s.date)
  pub window : window_of rows ≡ Some (s.first, s.minutes)
  pub rides : trips_of rows ≡ Some s.rides
  pub walk : walk_of rows ≡ Some s.walk
  pub shares : shares_of rows ≡ Some s.shares
  pub withins : withins_of rows ≡ Some s.withins
  pub workers : workers_of rows ≡ Some s.workers
  pub tries : tries_of rows ≡ Some s.tries
  pub back : back_of rows ≡ Some s.back
  pub ahead : ahead_of rows ≡ Some s.ahead

-- each path is its text
pub record NamesFiles (rows : List Row) (t : Task) : Type 0 where
  pub feed : text_at rows (codes "feed") ≡ Some (string_bytes t.feed)
  pub footpaths : text_at rows (codes "footpaths") ≡ option_map string_bytes t.footpaths
  pub origins : text_at rows (codes "origins") ≡ option_map string_bytes t.origins
  pub opportunities : text_at rows (codes "opportunities") ≡ option_map string_bytes t.opportunities
  pub destinations : text_at rows (codes "destinations") ≡ option_map string_bytes t.destinations
  pub scenarios : scenarios_at rows ≡ map string_bytes t.scenarios.items

-- ---- what is wrong

-- this option, where its text has no value
abbrev pub unless : {X : Type 0} → Opt → Option X → List Opt
unless o None = o ∷ []
unless o (Some x) = []

-- the options that are bad, in the order in which they are looked at
abbrev pub bad_options : List Row → List Opt
bad_options rows =
    unless opt.Date (date_of rows) ++ unless opt.Window (window_of rows) ++ unless opt.Trips (trips_of rows) ++ unless
    opt.Walk (walk_of rows)
    ++ unless opt.Share (shares_of rows) ++ unless opt.Within (withins_of rows) ++ unless opt.Workers
    (workers_of rows) ++ unless opt.Tries (tries_of rows)
    ++ unless opt.Back (back_of rows) ++ unless opt.Ahead (ahead_of rows)

-- what a fault says of the words: they aren't the command's or ask for its help or version, or they are and this option
-- is the first bad one
abbrev pub Tells : WordFault → List Text → Type 0
Tells (fault.Words e) words = (takes study_app words ≡ false) × HasKind (fault_of study_app words) e
Tells (fault.Bad o) words = (fault_of study_app words ≡ []) × IsFirst o (bad_options (rows_of_words words))
Tells fault.Memory words = ⊤

-- ---- what the program ends with

-- help and the version are no fault
abbrev pub words_status : ErrorKind → ℕ
words_status DisplayHelp = DONE
words_status DisplayVersion = DONE
words_status _ = REFUSED

abbrev pub word_status_of : WordFault → ℕ
word_status_of (fault.Words e) = words_status (kind_of e)
word_status_of (fault.Bad o) = REFUSED
word_status_of fault.Memory = NO_ROOM
