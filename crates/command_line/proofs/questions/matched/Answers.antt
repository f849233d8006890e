use Rattle.std.proofs.Common.{◌∙◌, ap, map, string_bytes}
use Rattle.clap.specs.Words.{App, app_of, is_simple, is_simple_and_free}
use Rattle.command_line.specs.Questions.{question_app}
use Rattle.command_line.proofs.QuestionCommand.{question_free, question_simple}
use Rattle.command_line.proofs.StudyCommand.{same_rows, same_faults, same_kind, not_taken}
use Rattle.command_line.proofs.questions.matched.Goals as goal

pub returns-in-Ok-clause-rows : goal.returns-in-Ok-clause-rows
returns-in-Ok-clause-rows c =
    let is = c.in_ok-command.ensures in
    same_rows (app_of c.in_ok-command.command) question_app _ _ is
    (c.in-Ok.ensures.matches (ap (λ (a : App). is_simple a) is ∙ question_simple)).0

pub returns-in-Ok-clause-taken : goal.returns-in-Ok-clause-taken
returns-in-Ok-clause-taken c =
    let is = c.in_ok-command.ensures in
    same_faults (app_of c.in_ok-command.command) question_app _ is
    (c.in-Ok.ensures.kinds (ap (λ (a : App). is_simple_and_free a) is ∙ question_free))

pub returns : goal.returns
returns c =
    let is = c.in_ok-command.ensures in
    let ws = map string_bytes c.args.words.now in
    let kinds = c.in-Err.ensures.kinds (ap (λ (a : App). is_simple_and_free a) is ∙ question_free) in
    record {
      rows = tt;
      taken = tt;
      fault = (
        not_taken (app_of c.in_ok-command.command) question_app ws is
            (λ t. c.in_default.not-OutOfMemory (c.kind.ensures ∙ c.in-Err.ensures.passes t)),
        same_kind (app_of c.in_ok-command.command) question_app ws c.in-Err.error is kinds,
      );
    }
