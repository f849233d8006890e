use Rattle.std.proofs.Common.{map, string_bytes, subst, sym}
use Rattle.std.proofs.lemmas.Result.{IfErr-at_err, IfOk-at_ok}
use Rattle.clap.specs.Words.{found_of, rows_of}
use Rattle.command_line.specs.Questions.{rows_of_question, IsAskedOver}
use Rattle.command_line.proofs.QuestionCommand.{same_bad_over, same_paths, same_settings_over}
use Rattle.command_line.proofs.questions.question_of.Goals as goal

pub returns-in-Ok-Err-clause-fault : goal.returns-in-Ok-Err-clause-fault
returns-in-Ok-Err-clause-fault c = (
  c.in_ok-matches.ensures.taken,
  same_bad_over (rows_of (found_of c.in_ok-matches.matches)) (rows_of_question (map string_bytes c.args.words.now))
      c.args.base.now c.in-Ok-Err.opt c.in_ok-matches.ensures.rows
      (IfErr-at_err _ c.in-Ok-Err.field-0-is c.in-Ok-Err.ensures.bad),
)

pub returns-in-Ok-clause-asked : goal.returns-in-Ok-clause-asked
returns-in-Ok-clause-asked c =
    let found = rows_of (found_of c.in_ok-matches.matches) in
    let rows = rows_of_question (map string_bytes c.args.words.now) in
    record {
      taken = c.in_ok-matches.ensures.taken;
      settings = same_settings_over found rows c.args.base.now c.in-Ok.question.settings
          c.in_ok-matches.ensures.rows
          (subst (λ s. IsAskedOver found c.args.base.now s) (sym c.in-Ok.ensures.settings)
          (IfOk-at_ok _ c.in-Ok-Ok.field-0-is c.in-Ok-Ok.ensures.asked));
      paths = same_paths found rows c.in-Ok.question c.in_ok-matches.ensures.rows
          c.in-Ok.ensures.paths;
    }
