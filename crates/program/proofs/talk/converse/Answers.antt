use Rattle.std.proofs.Common.{inr}
use Rattle.std.specs.Process.{exit_status}
use Rattle.outputs.specs.Outputs.{after}
use Rattle.studies.specs.Inputs.{inputs_of}
use Rattle.program.proofs.ReplyFacts.{ends_talk, same_talk}
use Rattle.program.proofs.talk.converse.Goals as goal

pub returns-in-Ok-clause-ended : goal.returns-in-Ok-clause-ended
returns-in-Ok-clause-ended g c =
    let finds = g.H.Disk.finds c.args.host.now in
    let known = g.I.Read.remaining c.args.input.now in
    let left = g.I.Read.remaining c.talk.new.input in
    let out = g.O.Write.contents c.args.out.now in
    let put = after (g.O.Write.contents c.talk.new.out) (g.O.Output.broke c.talk.new.out) in
    let err = g.E.Write.contents c.args.err.now in
    let told = after (g.E.Write.contents c.end.new.err) (g.E.Output.broke c.end.new.err) in
    let status = exit_status c.end.result in
    let kept = inputs_of c.in-Ok.kept.inputs in
    inr
    (same_talk finds kept (inputs_of c.args.inputs.now) c.in-Ok.kept.settings.now c.args.task.now.settings known left
    out put err told status c.in-Ok.ensures.files c.in-Ok.ensures.settings
    (ends_talk finds kept c.in-Ok.kept.settings.now known left out put err told status c.talk.result
    c.talk.ensures.whole c.talk.ensures.fault c.end.ensures.ended))
