-- What `clap` says of the command of a question.
use Rattle.std.proofs.Common.{◌≡◌, List, refl, subst, true}
use Rattle.clap.proofs.OnLiterals.{clap_on_literals}
use Rattle.clap.specs.Words.{Row, is_simple, is_simple_and_free}
use Rattle.table_records.specs.Faults.{IsFirst}
use Rattle.studies.specs.declared.settings.Settings.{Settings}
use Rattle.command_line.specs.declared.task.Opt.{Opt}
use Rattle.command_line.specs.declared.task.QuestionTask.{QuestionTask}
use Rattle.command_line.specs.Questions.{IsAskedOver, NamesFiles, bad_options_over, question_app}

pub question_simple : is_simple question_app ≡ true
unfolding clap_on_literals
question_simple = refl

pub question_free : is_simple_and_free question_app ≡ true
unfolding clap_on_literals
question_free = refl

-- what the texts of a command say, the texts of the question's say
pub same_settings_over : (a b : List Row) (base s : Settings) → a ≡ b → IsAskedOver a base s → IsAskedOver b base s
same_settings_over a b base s is h = subst (λ rows. IsAskedOver rows base s) is h

pub same_paths : (a b : List Row) (q : QuestionTask) → a ≡ b → NamesFiles a q → NamesFiles b q
same_paths a b q is h = subst (λ rows. NamesFiles rows q) is h

pub same_bad_over : (a b : List Row) (base : Settings) (o : Opt) → a ≡ b → IsFirst o (bad_options_over a base) →
    IsFirst o (bad_options_over b base)
same_bad_over a b base o is h = subst (λ rows. IsFirst o (bad_options_over rows base)) is h
