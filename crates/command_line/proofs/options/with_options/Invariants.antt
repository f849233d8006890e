use Rattle.std.proofs.Common.{◌≡◌, map, take}
use Rattle.clap.specs.Words.{app_of}
use Rattle.command_line.specs.Words.{rule_in, with_rules}
use Rattle.command_line.proofs.options.with_options.Given as goal

abbrev pub invariant-loop-option : goal.invariant-loop-option
invariant-loop-option l = app_of l.command
    ≡ with_rules (app_of l.fn.command) (map (rule_in l.must) (take l.option-index l.options))
