use Rattle.std.proofs.Common.{◌≡◌, ◌+◌, ◌++◌, ◌∷◌, [], arith, take}
use Rattle.std.proofs.lemmas.Grind.{common_steps}
use Rattle.studies.specs.Answers.{IsAnswer}
use Rattle.studies.specs.Inputs.{inputs_of}
use Rattle.studies.proofs.AnswersInOrder.{is_answer, one_more}
use Rattle.studies.proofs.question.answers.Goals as goal

pub loop-question-preserved : goal.loop-question-preserved
loop-question-preserved g c =
    let decides = g.G.Gate.decides c.args.gate.now in
    let was_told = g.G.Gate.was_told c.args.gate.now in
    let i = inputs_of c.args.kept.now.inputs in
    let questions = take c.loop-question.question-index c.args.questions.now in
    let answers = c.loop-question.answers.items in
    let q = c.question-item.result in
    let a = c.answer.result in
    let items : c.push.new.self.items ≡ answers ++ a ∷ [] = grind (arith, common_steps) in
    let asked : take (c.loop-question.question-index + 1) c.args.questions.now ≡ questions ++ q ∷ [] =
    grind (arith, common_steps) in
    let is : IsAnswer decides was_told i q a =
    is_answer decides was_told i q a c.answer.ensures.text c.answer.ensures.run in
    rw (asked, items) (one_more decides was_told i questions answers q a c.loop-question.invariant is)
