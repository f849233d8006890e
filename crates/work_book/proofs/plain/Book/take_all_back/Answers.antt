use Rattle.std.proofs.Common.{◌≡◌, ◌++◌, ◌∷◌, [], ℕ, List, length, get_or, take, rules, subst, sym}
use Rattle.work_book.specs.Book.{BookState}
use Rattle.work_book.specs.Steps.{run_of}
use Rattle.work_book.specs.TakenBack.{HasRun, HasStepped, taken_back}
use Rattle.work_book.specs.declared.steps.Step.TheVariants.{Draw}
use Rattle.work_book.specs.declared.steps.Answer.{Answer}
use Rattle.work_book.proofs.RunsTakenBack.{last_step, one_back}
use Rattle.work_book.proofs.plain.Book.take_all_back.Goals as goal

pub take_back-requires : goal.take_back-requires
take_back-requires c =
    let before = c.requires.0 in
    let steps = c.args.steps.now in
    let rest = c.pop.new.self.items in
    let told = c.in-Some.answer in
    let now = c.loop-answer.self in
    let run : HasRun before steps (rest ++ told ∷ []) now =
    subst (λ (answers : List Answer). HasRun before steps answers now) c.in-Some.ensures.items
    (c.loop-answer.invariant before c.requires.1) in
    let count : length rest ≡ c.len.result = search rules in (
      run_of before (take (length rest) steps),
      subst (λ (k : ℕ). HasStepped (run_of before (take (length rest) steps)) (get_or steps k (Draw 0)) told now)
          count (last_step before steps rest told now (Draw 0) run),
    )

pub loop-answer-preserved : goal.loop-answer-preserved
loop-answer-preserved c = λ before started.
    let steps = c.args.steps.now in
    let rest = c.pop.new.self.items in
    let told = c.in-Some.answer in
    let now = c.loop-answer.self in
    let run : HasRun before steps (rest ++ told ∷ []) now =
    subst (λ (answers : List Answer). HasRun before steps answers now) c.in-Some.ensures.items
    (c.loop-answer.invariant before started) in
    let count : length rest ≡ c.len.result = search rules in
    subst (λ (b : BookState). HasRun before steps rest b) (sym c.take_back.ensures)
    (subst (λ (k : ℕ). HasRun before steps rest (taken_back now (get_or steps k (Draw 0)) told)) count
    (one_back before steps rest told now (Draw 0) run))
