use Rattle.std.proofs.Common.{◌∙◌, sym, arith}
use Rattle.clap.specs.Words.{app_of}
use Rattle.command_line.proofs.StudyCommand.{added, next_rule}
use Rattle.command_line.proofs.options.with_options.Goals as goal

pub loop-option-preserved : goal.loop-option-preserved
loop-option-preserved c =
    added c.loop-option.command c.in_ok-command.command c.argument.result _ _ c.in_ok-command.ensures
    c.argument.ensures.local c.argument.ensures.rule
    c.loop-option.invariant
    ∙ sym (next_rule (app_of c.args.command) c.args.must c.args.options.now c.loop-option.option-index _ (omega arith))
