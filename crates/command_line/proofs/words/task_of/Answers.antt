use Rattle.std.proofs.Common.{map, string_bytes, subst, sym}
use Rattle.std.proofs.lemmas.Result.{IfErr-at_err, IfOk-at_ok}
use Rattle.clap.specs.Words.{found_of, rows_of}
use Rattle.command_line.specs.Words.{rows_of_words, IsAsked}
use Rattle.command_line.proofs.StudyCommand.{same_settings, same_report, same_ask, same_bad}
use Rattle.command_line.proofs.words.task_of.Goals as goal

pub returns-in-Ok-Err-clause-fault : goal.returns-in-Ok-Err-clause-fault
returns-in-Ok-Err-clause-fault c = (
  c.in_ok-matches.ensures.taken,
  same_bad (rows_of (found_of c.in_ok-matches.matches)) (rows_of_words (map string_bytes c.args.words.now))
      c.in-Ok-Err.opt c.in_ok-matches.ensures.rows (IfErr-at_err _ c.in-Ok-Err.field-0-is c.in-Ok-Err.ensures.bad),
)

pub returns-in-Ok-clause-asked : goal.returns-in-Ok-clause-asked
returns-in-Ok-clause-asked c =
    same_settings (rows_of (found_of c.in_ok-matches.matches)) (rows_of_words (map string_bytes c.args.words.now))
    c.in-Ok.task.settings c.in_ok-matches.ensures.rows
    (subst (λ s. IsAsked (rows_of (found_of c.in_ok-matches.matches)) s) (sym c.in-Ok.ensures.settings)
    (IfOk-at_ok _ c.in-Ok-Ok.field-0-is c.in-Ok-Ok.ensures.asked))

pub returns-in-Ok-clause-reported : goal.returns-in-Ok-clause-reported
returns-in-Ok-clause-reported c =
    same_report (rows_of (found_of c.in_ok-matches.matches)) (rows_of_words (map string_bytes c.args.words.now))
    c.in-Ok.task c.in_ok-matches.ensures.rows
    c.in-Ok.ensures.reported

pub returns-in-Ok-clause-asks : goal.returns-in-Ok-clause-asks
returns-in-Ok-clause-asks c =
    same_ask (rows_of (found_of c.in_ok-matches.matches)) (rows_of_words (map string_bytes c.args.words.now))
    c.in-Ok.task c.in_ok-matches.ensures.rows
    c.in-Ok.ensures.asks
