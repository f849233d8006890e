use Rattle.outputs.specs.Outputs.{after}
use Rattle.studies.specs.Inputs.{inputs_of}
use Rattle.program.proofs.TalkFacts.{breaks, ends_at, goes_on_at, none_answered, stops}
use Rattle.program.proofs.talk.talk.Goals as goal

pub loop-number-init : goal.loop-number-init
loop-number-init g c = none_answered _ _ _ _ _

pub returns-clause-fault : goal.returns-clause-fault
returns-clause-fault g c = breaks _ _ _ _ _ _ _ c.loop-number.invariant

pub returns-in-Err-clause-fault : goal.returns-in-Err-clause-fault
returns-in-Err-clause-fault g c =
    stops (g.H.Disk.finds c.args.host.now) (inputs_of c.args.kept.now.inputs) c.args.kept.now.settings.now
    (g.I.Read.remaining c.args.input.now) (g.I.Read.remaining c.loop-number.input)
    (g.I.Read.remaining c.turn.new.input) (g.O.Write.contents c.args.out.now) (g.O.Write.contents c.loop-number.out)
    (after (g.O.Write.contents c.turn.new.out) (g.O.Output.broke c.turn.new.out)) c.in-Err.fault
    c.loop-number.invariant c.in-Err.ensures.stop

pub returns-then-not-more-clause-whole : goal.returns-then-not-more-clause-whole
returns-then-not-more-clause-whole g c =
    ends_at (g.H.Disk.finds c.args.host.now) (inputs_of c.args.kept.now.inputs) c.args.kept.now.settings.now
    (g.I.Read.remaining c.args.input.now) (g.I.Read.remaining c.loop-number.input)
    (g.I.Read.remaining c.turn.new.input) (g.O.Write.contents c.args.out.now) (g.O.Write.contents c.loop-number.out)
    (g.O.Write.contents c.turn.new.out) c.in-Ok.more c.if-not-more.true c.loop-number.invariant c.in-Ok.ensures.step

pub loop-number-preserved : goal.loop-number-preserved
loop-number-preserved g c =
    goes_on_at (g.H.Disk.finds c.args.host.now) (inputs_of c.args.kept.now.inputs) c.args.kept.now.settings.now
    (g.I.Read.remaining c.args.input.now) (g.I.Read.remaining c.loop-number.input)
    (g.I.Read.remaining c.turn.new.input) (g.O.Write.contents c.args.out.now) (g.O.Write.contents c.loop-number.out)
    (g.O.Write.contents c.turn.new.out) c.in-Ok.more c.if-not-more.false c.loop-number.invariant c.in-Ok.ensures.step
