use Rattle.std.proofs.Common.{◌≡◌, ◌∙◌, ◌<◌, ◌++◌, ◌∷◌, [], ℕ, List, length, get_or, rules, subst, sym, ap}
use Rattle.work_book.specs.Book.{BookState}
use Rattle.work_book.specs.Steps.{after, answer_of}
use Rattle.work_book.specs.TakenBack.{HasRun}
use Rattle.work_book.specs.declared.steps.Step.TheVariants.{Draw}
use Rattle.work_book.specs.declared.steps.Answer.{Answer}
use Rattle.work_book.proofs.RunsTakenBack.{one_more}
use Rattle.work_book.proofs.plain.Book.run.Goals as goal

pub loop-step-preserved : goal.loop-step-preserved
loop-step-preserved c =
    let before = c.args.self.now in
    let steps = c.args.steps.now in
    let answers = c.loop-step.answers.items in
    let now = c.loop-step.self in
    let count : length answers ≡ c.loop-step.step-index = search rules in
    let left : length answers < length steps = search rules in
    let step = get_or steps c.loop-step.step-index (Draw 0) in
    let more : HasRun before steps (answers ++ answer_of now step ∷ []) (after now step) =
    subst (λ (k : ℕ). HasRun before steps (answers ++ answer_of now (get_or steps k (Draw 0)) ∷ [])
    (after now (get_or steps k (Draw 0)))) count
    (one_more before steps answers now (Draw 0) left c.loop-step.invariant.run) in
    let led : HasRun before steps (answers ++ answer_of now step ∷ []) c.step.new.self =
    subst (λ (b : BookState). HasRun before steps (answers ++ answer_of now step ∷ []) b) (sym c.in-Ok.ensures.ok)
    more in
    let told : c.push_reserved.new.self.items ≡ answers ++ answer_of now step ∷ [] =
    c.push_reserved.ensures.items ∙ ap (λ (a : Answer). answers ++ a ∷ []) c.in-Ok.ensures.answer in
    record {
      run = subst (λ (list : List Answer). HasRun before steps list c.step.new.self) (sym told) led;
      size = search rules;
      count = search rules;
      room = search rules;
    }
