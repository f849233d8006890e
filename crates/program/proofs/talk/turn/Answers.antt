use Rattle.std.proofs.Common.{inl, subst}
use Rattle.std.specs.Io.KnownBytes.{Appends}
use Rattle.matrix_text.specs.Prefixes.{PutsPrefix}
use Rattle.studies.specs.Inputs.{inputs_of}
use Rattle.program.proofs.ReplyFacts.{at_err, at_ok, turn_of}
use Rattle.program.specs.Blocks.{IsNext}
use Rattle.program.proofs.talk.turn.Goals as goal

pub returns-then-is_err-clause-stop : goal.returns-then-is_err-clause-stop
returns-then-is_err-clause-stop g c =
    let known = g.I.Read.remaining c.args.input.now in
    let left = g.I.Read.remaining c.next_block.new.input in (
      at_err c.put_reply.result c.put_reply.ensures.broke c.is_err.ensures.value c.if-is_err.true,
      (
        c.in-Ok-Some.block.is_closed,
        turn_of PutsPrefix (g.H.Disk.finds c.args.host.now) (inputs_of c.args.kept.now.inputs)
            c.args.kept.now.settings.now known left (g.O.Write.contents c.args.out.now)
            (g.O.Write.contents c.put_reply.new.out) c.in-Ok-Some.block c.reply_to-reply.result
            (subst (λ b. IsNext known left b) c.in-Ok-Some.field-0-is c.in-Ok-Some.ensures.block)
            c.reply_to-reply.ensures (at_err c.put_reply.result c.put_reply.ensures.err c.is_err.ensures.value
            c.if-is_err.true),
      ),
    )

pub returns-clause-step : goal.returns-clause-step
returns-clause-step g c =
    let known = g.I.Read.remaining c.args.input.now in
    let left = g.I.Read.remaining c.next_block.new.input in
    inl
    (turn_of Appends (g.H.Disk.finds c.args.host.now) (inputs_of c.args.kept.now.inputs)
    c.args.kept.now.settings.now known left (g.O.Write.contents c.args.out.now)
    (g.O.Write.contents c.put_reply.new.out) c.in-Ok-Some.block c.reply_to-reply.result
    (subst (λ b. IsNext known left b) c.in-Ok-Some.field-0-is c.in-Ok-Some.ensures.block)
    c.reply_to-reply.ensures (at_ok c.put_reply.result c.put_reply.ensures.ok c.is_err.ensures.value
    c.if-is_err.false))
