-- Steps of a run are taken back one by one, the last one first.
use Rattle.std.proofs.Common.{◌≡◌, ◌<◌, ◌++◌, [], ◌∷◌, ℕ, List, length, get_or, take, arith, sym, ap, ◌∙◌, refl}
use Rattle.std.proofs.Common.{length-append}
use Rattle.std.proofs.lemmas.List.{take_more, same_from_push}
use Rattle.work_book.specs.Book.{BookState}
use Rattle.work_book.specs.Steps.{answer_of, after, answers_of, run_of}
use Rattle.work_book.specs.TakenBack.{taken_back, HasStepped, HasRun}
use Rattle.work_book.specs.declared.steps.Step.{Step}
use Rattle.work_book.specs.declared.steps.Answer.{Answer}
use Rattle.work_book.proofs.StepsKeepBooks.{run_book}
use Rattle.work_book.proofs.StepsTakenBack.{taken_back_is}

run_of-push : (steps : List Step) (step : Step) (book : BookState) →
    run_of book (steps ++ step ∷ []) ≡ after (run_of book steps) step
run_of-push [] step book = refl
run_of-push (first ∷ steps) step book = run_of-push steps step (after book first)

answers_of-push : (steps : List Step) (step : Step) (book : BookState) →
    answers_of book (steps ++ step ∷ []) ≡ answers_of book steps ++ answer_of (run_of book steps) step ∷ []
answers_of-push [] step book = refl
answers_of-push (first ∷ steps) step book =
    ap (λ (answers : List Answer). answer_of book first ∷ answers) (answers_of-push steps step (after book first))

pub more_steps : (before : BookState) (steps : List Step) (rest : List Answer) (told : Answer) (now : BookState) →
    HasRun before steps (rest ++ told ∷ []) now → length rest < length steps
more_steps before steps rest told now h = let few = h.few in let n = length-append rest (told ∷ []) in omega arith

-- the steps up to the last one, and the last one
first_steps : (before : BookState) (steps : List Step) (rest : List Answer) (told : Answer) (now : BookState)
    (d : Step) → HasRun before steps (rest ++ told ∷ []) now
    → take (length (rest ++ told ∷ [])) steps ≡ take (length rest) steps ++ get_or steps (length rest) d ∷ []
first_steps before steps rest told now d h =
    ap (λ (n : ℕ). take n steps) (length-append rest (told ∷ []))
    ∙ take_more steps (length rest) d (more_steps before steps rest told now h)

last_answers : (before : BookState) (steps : List Step) (rest : List Answer) (told : Answer) (now : BookState)
    (d : Step) → HasRun before steps (rest ++ told ∷ []) now
    → (rest ≡ answers_of before (take (length rest) steps))
    × (told ≡ answer_of (run_of before (take (length rest) steps)) (get_or steps (length rest) d))
last_answers before steps rest told now d h =
    same_from_push rest (answers_of before (take (length rest) steps)) told
    (answer_of (run_of before (take (length rest) steps)) (get_or steps (length rest) d))
    (h.told ∙ ap (answers_of before) (first_steps before steps rest told now d h)
    ∙ answers_of-push (take (length rest) steps) (get_or steps (length rest) d) before)

pub last_step : (before : BookState) (steps : List Step) (rest : List Answer) (told : Answer) (now : BookState)
    (d : Step) → HasRun before steps (rest ++ told ∷ []) now
    → HasStepped (run_of before (take (length rest) steps)) (get_or steps (length rest) d) told now
last_step before steps rest told now d h = record {
  book = run_book (take (length rest) steps) before h.book;
  told = (last_answers before steps rest told now d h).1;
  led = h.led ∙ ap (run_of before) (first_steps before steps rest told now d h)
      ∙ run_of-push (take (length rest) steps) (get_or steps (length rest) d) before;
}

pub one_back : (before : BookState) (steps : List Step) (rest : List Answer) (told : Answer) (now : BookState)
    (d : Step) → HasRun before steps (rest ++ told ∷ []) now
    → HasRun before steps rest (taken_back now (get_or steps (length rest) d) told)
one_back before steps rest told now d h = record {
  book = h.book;
  few = let l = more_steps before steps rest told now h in omega arith;
  told = (last_answers before steps rest told now d h).0;
  led = taken_back_is _ _ told now (last_step before steps rest told now d h);
}

-- a run that goes on
pub one_more : (before : BookState) (steps : List Step) (answers : List Answer) (now : BookState) (d : Step) →
    length answers < length steps → HasRun before steps answers now
    → HasRun before steps (answers ++ answer_of now (get_or steps (length answers) d) ∷ [])
    (after now (get_or steps (length answers) d))
one_more before steps answers now d l h =
    let n = length-append answers (answer_of now (get_or steps (length answers) d) ∷ []) in
    let all = ap (λ (n : ℕ). take n steps) n ∙ take_more steps (length answers) d l in
    record {
      book = h.book;
      few = omega arith;
      told = (λ i. h.told i ++ answer_of (h.led i) (get_or steps (length answers) d) ∷ [])
          ∙ sym (answers_of-push (take (length answers) steps) (get_or steps (length answers) d) before)
          ∙ sym (ap (answers_of before) all);
      led = ap (λ (b : BookState). after b (get_or steps (length answers) d)) h.led
          ∙ sym (run_of-push (take (length answers) steps) (get_or steps (length answers) d) before)
          ∙ sym (ap (run_of before) all);
    }
