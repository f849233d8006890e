-- Answers to questions, one after another.
use Rattle.std.proofs.Common.{List, [], ◌∷◌, ◌++◌, Ok, Err}
use Rattle.std.specs.Prelude.{IfErr, IfOk}
use Rattle.workers.specs.Held.{Decides, WasTold}
use Rattle.studies.specs.declared.question.Question.{Question}
use Rattle.studies.specs.Answers.{Answer, AreAnswers, IsAnswer, asked_files}
use Rattle.studies.specs.Inputs.{InputFiles}
use Rattle.studies.specs.Study.{IsStudyText, TellsBy}

module _ (decides : Decides) (was_told : WasTold) (i : InputFiles) where
  -- what is said of an answer, by its two cases
  pub is_answer : (q : Question) (a : Answer)
      → IfOk a (λ text. IsStudyText (asked_files i q) q.settings.now text.items)
      → IfErr a (λ e. TellsBy decides was_told e (asked_files i q) q.settings.now) → IsAnswer decides was_told i q a
  is_answer q (Ok text) ok err = ok
  is_answer q (Err e) ok err = err

  -- one more question, and its answer
  pub one_more : (questions : List Question) (answers : List Answer) (q : Question) (a : Answer) →
      AreAnswers decides was_told i questions answers → IsAnswer decides was_told i q a →
      AreAnswers decides was_told i (questions ++ q ∷ []) (answers ++ a ∷ [])
  one_more [] [] q a are is = (is, tt)
  one_more [] (b ∷ answers) q a are is = absurd are
  one_more (p ∷ questions) [] q a are is = absurd are
  one_more (p ∷ questions) (b ∷ answers) q a are is = (are.0, one_more questions answers q a are.1 is)
