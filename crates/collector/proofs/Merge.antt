-- The steps of the book and the rows that are handed over do not meet.
use Rattle.std.proofs.Common.{◌≡◌, List, [], ◌∷◌, suc, length, refl, ap, ◌∙◌}
use Rattle.work_book.specs.Book.{BookState}
use Rattle.work_book.specs.Steps as book
use Rattle.work_book.specs.declared.steps.Step.{Step}
use Rattle.work_book.specs.declared.steps.Answer.{Answer}
use Rattle.collector.specs.Places.{PlacesData}
use Rattle.collector.specs.Offers.{offer_of, after_offer, offered}
use Rattle.collector.specs.declared.plain.CoreStep.{CoreStep}
use Rattle.collector.specs.declared.plain.CoreStep.TheVariants.{Book, Hand}
use Rattle.collector.specs.declared.plain.CoreAnswer.{CoreAnswer}
use Rattle.collector.specs.declared.plain.CoreAnswer.TheVariants as answer
use Rattle.collector.specs.Plain.{core, answers_of, run_of, book_steps, handed, merged}

pub merged_is : (steps : List CoreStep) (b : BookState) (p : PlacesData) →
    merged p steps (book.answers_of b (book_steps steps)) ≡ answers_of (core b p) steps
merged_is [] b p = refl
merged_is (Book step ∷ steps) b p = ap (λ (l : List CoreAnswer). answer.Book (book.answer_of b step) ∷ l)
    (merged_is steps (book.after b step) p)
merged_is (Hand seat row ∷ steps) b p = ap (λ (l : List CoreAnswer). answer.Hand (offer_of p row) ∷ l)
    (merged_is steps b (after_offer p row))

pub run_is : (steps : List CoreStep) (b : BookState) (p : PlacesData) →
    core (book.run_of b (book_steps steps)) (offered p (handed steps)) ≡ run_of (core b p) steps
run_is [] b p = refl
run_is (Book step ∷ steps) b p = run_is steps (book.after b step) p
run_is (Hand seat row ∷ steps) b p = run_is steps b (after_offer p row)

answers_length : (steps : List Step) (b : BookState) → length (book.answers_of b steps) ≡ length steps
answers_length [] b = refl
answers_length (step ∷ steps) b = ap suc (answers_length steps (book.after b step))

-- the book answers each of its steps
pub as_many : (told : List Answer) (own : List Step) (b : BookState) (steps : List CoreStep) →
    told ≡ book.answers_of b own → own ≡ book_steps steps → length told ≡ length (book_steps steps)
as_many told own b steps e f = ap length e ∙ answers_length own b ∙ ap length f
