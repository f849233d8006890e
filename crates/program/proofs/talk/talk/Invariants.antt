use Rattle.studies.specs.Inputs.{inputs_of}
use Rattle.program.proofs.TalkFacts.{AreAnswered}
use Rattle.program.proofs.talk.talk.Given as goal

abbrev pub invariant-loop-number : goal.invariant-loop-number
invariant-loop-number g l =
    AreAnswered (g.H.Disk.finds l.host) (inputs_of l.kept.inputs) l.kept.settings.now
    (g.I.Read.remaining l.fn.input) (g.I.Read.remaining l.input) (g.O.Write.contents l.fn.out)
    (g.O.Write.contents l.out)
