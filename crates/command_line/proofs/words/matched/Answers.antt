use Rattle.std.proofs.Common.{◌≡◌, ◌∙◌, ap, subst, map, true, is_some, codes, string_bytes}
use Rattle.clap.proofs.WalkLemmas.{first_value-rows}
use Rattle.clap.specs.Words.{App, app_of, found_of, is_simple, is_simple_and_free}
use Rattle.command_line.specs.Words.{study_app}
use Rattle.command_line.proofs.Required.{required_text}
use Rattle.command_line.proofs.StudyCommand.{study_simple, study_free, feed_there, feed_fit, same_rows, same_faults}
use Rattle.command_line.proofs.StudyCommand.{same_kind, not_taken}
use Rattle.command_line.proofs.words.matched.Goals as goal

pub returns-in-Ok-clause-rows : goal.returns-in-Ok-clause-rows
returns-in-Ok-clause-rows c =
    let is = c.in_ok-command.ensures in
    same_rows (app_of c.in_ok-command.command) study_app _ _ is
    (c.in-Ok.ensures.matches (ap (λ (a : App). is_simple a) is ∙ study_simple)).0

pub returns-in-Ok-clause-taken : goal.returns-in-Ok-clause-taken
returns-in-Ok-clause-taken c =
    let is = c.in_ok-command.ensures in
    same_faults (app_of c.in_ok-command.command) study_app _ is
    (c.in-Ok.ensures.kinds (ap (λ (a : App). is_simple_and_free a) is ∙ study_free))

pub returns-in-Ok-clause-feed : goal.returns-in-Ok-clause-feed
returns-in-Ok-clause-feed c =
    let found = found_of c.in-Ok.matches in
    subst (λ o. is_some o ≡ true) (first_value-rows found (codes "feed"))
    (required_text c.in_ok-command.command c.in-Ok.matches study_app (codes "feed") 0 c.in-Ok.ensures.parsed
    c.in_ok-command.ensures
    feed_there feed_fit)

pub returns : goal.returns
returns c =
    let is = c.in_ok-command.ensures in
    let ws = map string_bytes c.args.words.now in
    let kinds = c.in-Err.ensures.kinds (ap (λ (a : App). is_simple_and_free a) is ∙ study_free) in
    record {
      rows = tt;
      taken = tt;
      feed = tt;
      fault = (
        not_taken (app_of c.in_ok-command.command) study_app ws is
            (λ t. c.in_default.not-OutOfMemory (c.kind.ensures ∙ c.in-Err.ensures.passes t)),
        same_kind (app_of c.in_ok-command.command) study_app ws c.in-Err.error is kinds,
      );
    }
