-- Steps of a book of work and rows handed over, in one order.
use Rattle.std.specs.Prelude.{List, [], ◌∷◌}
use Rattle.work_book.specs.Book.{BookState}
use Rattle.work_book.specs.Steps as book
use Rattle.work_book.specs.declared.steps.Step.{Step}
use Rattle.work_book.specs.declared.steps.Answer.{Answer}
use Rattle.collector.specs.Row.{RowData}
use Rattle.collector.specs.Places.{PlacesData}
use Rattle.collector.specs.Offers.{offer_of, after_offer}
use Rattle.collector.specs.declared.plain.CoreStep.{CoreStep}
use Rattle.collector.specs.declared.plain.CoreStep.TheVariants.{Book, Hand}
use Rattle.collector.specs.declared.plain.CoreAnswer.{CoreAnswer}
use Rattle.collector.specs.declared.plain.CoreAnswer.TheVariants as answer

-- a book of work and the places of the rows
pub record Core : Type 0 where
  pub book : BookState
  pub places : PlacesData

abbrev pub core : BookState → PlacesData → Core
core book places = record { book = book; places = places }

-- a step of the book answers as the book does, and a row that is handed over is offered, whoever hands it over
abbrev pub answer_of : Core → CoreStep → CoreAnswer
answer_of c (Book step) = answer.Book (book.answer_of c.book step)
answer_of c (Hand seat row) = answer.Hand (offer_of c.places row)

-- a step of the book changes the book alone, and a row that is handed over the places alone
abbrev pub after : Core → CoreStep → Core
after c (Book step) = record c { book = book.after c.book step }
after c (Hand seat row) = record c { places = after_offer c.places row }

-- the answers of steps that are made in order
abbrev pub answers_of : Core → List CoreStep → List CoreAnswer
answers_of c [] = []
answers_of c (step ∷ steps) = answer_of c step ∷ answers_of (after c step) steps

-- the book and the places after steps that are made in order
abbrev pub run_of : Core → List CoreStep → Core
run_of c [] = c
run_of c (step ∷ steps) = run_of (after c step) steps

-- the steps of the book
abbrev pub book_steps : List CoreStep → List Step
book_steps [] = []
book_steps (Book step ∷ steps) = step ∷ book_steps steps
book_steps (Hand seat row ∷ steps) = book_steps steps

-- the answers of the book
abbrev pub book_answers : List CoreAnswer → List Answer
book_answers [] = []
book_answers (answer.Book told ∷ answers) = told ∷ book_answers answers
book_answers (answer.Hand offer ∷ answers) = book_answers answers

-- the rows that are handed over, in order
abbrev pub handed : List CoreStep → List RowData
handed [] = []
handed (Book step ∷ steps) = handed steps
handed (Hand seat row ∷ steps) = row ∷ handed steps

-- the book's answers, with those of the offers between them
abbrev pub merged : PlacesData → List CoreStep → List Answer → List CoreAnswer
merged places [] told = []
merged places (Book step ∷ steps) [] = []
merged places (Book step ∷ steps) (first ∷ told) = answer.Book first ∷ merged places steps told
merged places (Hand seat row ∷ steps) told =
    answer.Hand (offer_of places row) ∷ merged (after_offer places row) steps told
