-- Questions asked of what is kept, and their answers.
-- "The answer of a question is the text of the study that the kept files and the question's own files and settings mean
-- together, or its first fault: what a run with these files and settings says. So no answer depends on what was asked
-- before." (The program's own rule.)
use Rattle.std.specs.Prelude.{◌≡◌, ℕ, List, [], ◌∷◌, Result, Ok, Err, Vec, ⊤}
use Rattle.std.specs.declared.alloc.Global.{Global}
use Rattle.gtfs_tables.specs.Files as files
use Rattle.workers.specs.Held.{Decides, WasTold}
use Rattle.studies.specs.declared.fault.StudyFault.{StudyFault}
use Rattle.studies.specs.declared.question.Question.{Question}
use Rattle.studies.specs.Inputs.{InputFiles}
use Rattle.studies.specs.Kept.{lasting_settings}
use Rattle.studies.specs.Settings.{SettingsData, SettingsFit}
use Rattle.studies.specs.Study.{IsStudyText, TellsBy}

-- the files of the study that a question asks for: its own, beside those that are kept
abbrev pub asked_files : InputFiles → Question → InputFiles
asked_files i q = record i {
  origins = files.bytes_of q.origins;
  opportunities = files.bytes_of q.opportunities;
  destinations = files.bytes_of q.destinations;
}

-- a question of a study: its settings are within their limits, and so are its files; its days and its longest walk are
-- the study's
pub record IsQuestion (s : SettingsData) (q : Question) : Type 0 where
  pub fits : SettingsFit q.settings.now
  pub lasting : lasting_settings q.settings.now ≡ lasting_settings s
  pub origins : files.IsWithinLimit (files.bytes_of q.origins)
  pub opportunities : files.IsWithinLimit (files.bytes_of q.opportunities)
  pub destinations : files.IsWithinLimit (files.bytes_of q.destinations)

-- what a question is answered: a text, or why there is none
abbrev pub Answer : Type 0
Answer = Result (Vec ℕ Global) StudyFault

-- it is what a run of the question's study gives
abbrev pub IsAnswer : Decides → WasTold → InputFiles → Question → Answer → Type 0
IsAnswer decides was_told i q (Ok text) = IsStudyText (asked_files i q) q.settings.now text.items
IsAnswer decides was_told i q (Err fault) = TellsBy decides was_told fault (asked_files i q) q.settings.now

-- there is one answer for each question, in their order, each as if nothing else were asked
abbrev pub AreAnswers : Decides → WasTold → InputFiles → List Question → List Answer → Type 0
AreAnswers decides was_told i [] [] = ⊤
AreAnswers decides was_told i (q ∷ questions) (a ∷ answers) =
    IsAnswer decides was_told i q a × AreAnswers decides was_told i questions answers
AreAnswers decides was_told i [] (a ∷ answers) = ⊥
AreAnswers decides was_told i (q ∷ questions) [] = ⊥
