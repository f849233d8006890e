use Rattle.std.proofs.Common.{take}
use Rattle.studies.specs.Answers.{AreAnswers}
use Rattle.studies.specs.Inputs.{inputs_of}
use Rattle.studies.proofs.question.answers.Given as goal

abbrev pub invariant-loop-question : goal.invariant-loop-question
invariant-loop-question g l =
    AreAnswers (g.G.Gate.decides l.gate) (g.G.Gate.was_told l.gate) (inputs_of l.kept.inputs)
    (take l.question-index l.questions) l.answers.items
