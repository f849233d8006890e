use Rattle.std.proofs.Common.{ap, inr, ◌∙◌}
use Rattle.std.specs.Process.{exit_status}
use Rattle.outputs.specs.Outputs.{after}
use Rattle.program.proofs.Refusals.{is_refused}
use Rattle.program.proofs.answers.answer_task.Goals as goal
use Rattle.program.specs.Files.{files_of}
use Rattle.studies.specs.Inputs.{InputFiles, inputs_of}

pub returns-in-Err-clause-answered : goal.returns-in-Err-clause-answered
returns-in-Err-clause-answered g c =
    let printed = after (g.O.Write.contents c.put_study.new.out) (g.O.Output.broke c.put_study.new.out) in
    let told = after (g.E.Write.contents c.tell_why.new.err) (g.E.Output.broke c.tell_why.new.err) in
    inr
    (is_refused (files_of c.args.files.now) (inputs_of c.inputs.result) c.args.task.now.settings c.in-Err.fault
    (g.O.Write.contents c.args.out.now) printed
    (g.E.Write.contents c.args.err.now) told (exit_status c.tell_why.result)
    (ap (λ (i : InputFiles). i.scenarios) c.inputs.ensures ∙ c.in-Err.ensures.scenarios) c.in-Err.ensures.why
    c.tell_why.ensures.told)
