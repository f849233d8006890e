use Rattle.std.proofs.Common.{inl, subst}
use Rattle.std.specs.Process.{exit_status}
use Rattle.outputs.specs.Outputs.{after}
use Rattle.program.specs.Answers.{IsAnswered, IsPrinted}
use Rattle.program.proofs.arguments.example.Goals as goal

pub returns-in-Ok-clause-success : goal.returns-in-Ok-clause-success
returns-in-Ok-clause-success g c =
    let out = g.O.Write.contents c.args.out.now in
    let printed = g.O.Write.contents c.answer.new.out in
    λ z. (
      _,
      c.in-Ok.ensures.settings,
      subst (λ i. IsPrinted i c.in-Ok.settings out printed) c.example_inputs-inputs.ensures.files
          (c.answer.ensures.success z),
    )

pub returns-in-Ok-clause-ended : goal.returns-in-Ok-clause-ended
returns-in-Ok-clause-ended g c =
    let out = g.O.Write.contents c.args.out.now in
    let printed = after (g.O.Write.contents c.answer.new.out) (g.O.Output.broke c.answer.new.out) in
    let told = after (g.E.Write.contents c.answer.new.err) (g.E.Output.broke c.answer.new.err) in
    inl (
      _,
      c.in-Ok.ensures.settings,
      subst (λ i. IsAnswered i c.in-Ok.settings out printed (g.E.Write.contents c.args.err.now) told
          (exit_status c.answer.result)) c.example_inputs-inputs.ensures.files c.answer.ensures.answered,
    )
