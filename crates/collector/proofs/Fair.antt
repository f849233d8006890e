-- The book's steps in a run of a book and a collector are fair.
use Rattle.std.proofs.Common.{◌≡◌, ℕ, zero, suc, ◌*◌, List, [], ◌∷◌, Some, refl, ap, ◌∙◌, take}
use Rattle.std.specs.List.{slice_get}
use Rattle.work_book.specs.Steps as book
use Rattle.work_book.specs.Laws.{AreDrawnOnce, AreKeptOnce}
use Rattle.work_book.specs.declared.steps.Answer.{Answer}
use Rattle.work_book.specs.declared.steps.Answer.TheVariants.{Nothing}
use Rattle.work_book.proofs.StepsAreFair.{IsFair, step_fair, reached_fair, new_fair}
use Rattle.work_book.proofs.NothingIsLast.{one_later, nothing_last}
use Rattle.collector.specs.Plain.{Core, after, answers_of, run_of, book_steps, book_answers}
use Rattle.collector.specs.Laws.{Setup, opening, reached, IsRunOfBook, IsNothingLast}
use Rattle.collector.specs.declared.plain.CoreStep.{CoreStep}
use Rattle.collector.specs.declared.plain.CoreStep.TheVariants.{Book, Hand}
use Rattle.collector.specs.declared.plain.CoreAnswer.TheVariants as answer
use Rattle.collector.proofs.Placed.{book_is}

own_answers : (steps : List CoreStep) (c : Core) →
    book_answers (answers_of c steps) ≡ book.answers_of c.book (book_steps steps)
own_answers [] c = refl
own_answers (Book step ∷ steps) c = ap (λ (l : List Answer). book.answer_of c.book step ∷ l)
    (own_answers steps (after c (Book step)))
own_answers (Hand seat row ∷ steps) c = own_answers steps (after c (Hand seat row))

pub run_of_book : (s : Setup) (steps : List CoreStep) → IsRunOfBook s steps
run_of_book s steps = record { state = book_is s steps; answers = own_answers steps (opening s) }

fair_book : (s : Setup) (steps : List CoreStep) → IsFair (book.run_of (opening s).book (book_steps steps))
fair_book s steps = reached_fair s.jobs s.tries s.seats (book_steps steps)

pub drawn_once : (s : Setup) (steps : List CoreStep) → AreDrawnOnce (reached s steps).book
drawn_once s steps = rw (book_is s steps) ((fair_book s steps).drawn)

pub kept_once : (s : Setup) (steps : List CoreStep) → AreKeptOnce (reached s steps).book
kept_once s steps = rw (book_is s steps) ((fair_book s steps).kept)

-- before a step that the book answers with `Nothing` all numbers are drawn, from any fair book on
drawn_before : (steps : List CoreStep) (c : Core) → IsFair c.book → (k : ℕ) →
    slice_get (answers_of c steps) k ≡ Some (answer.Book Nothing) →
    (run_of c (take k steps)).book.next ≡ c.book.jobs * c.book.tries
drawn_before [] c fair k h = cc
drawn_before (Book step ∷ steps) c fair zero h = nothing_last (step ∷ []) c.book fair zero (inner _ _ h)
  where
    inner : (x y : Answer) → Some (answer.Book x) ≡ Some (answer.Book y) → Some x ≡ Some y
    inner x y e = cc
drawn_before (Book step ∷ steps) c fair (suc k) h =
    let more = drawn_before steps (after c (Book step)) (step_fair c.book step fair) k h in
    let same = one_later c.book step in
    more ∙ (λ i. same.jobs i * same.tries i)
drawn_before (Hand seat row ∷ steps) c fair zero h = cc
drawn_before (Hand seat row ∷ steps) c fair (suc k) h = drawn_before steps (after c (Hand seat row)) fair k h

pub nothing_at_last : (s : Setup) (steps : List CoreStep) → IsNothingLast s steps
nothing_at_last s steps = drawn_before steps (opening s) (new_fair s.jobs s.tries s.seats)
