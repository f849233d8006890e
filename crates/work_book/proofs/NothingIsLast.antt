-- `Nothing` is answered only once all numbers were drawn.
use Rattle.std.proofs.Common.{◌≡◌, ◌≤◌, ◌+◌, ◌*◌, ◌∷◌, [], ℕ, zero, suc, List, Bool, true, false, Some, arith, ◌∙◌}
use Rattle.std.proofs.Common.{refl, ◌&&◌, nat_lt, if◌then◌else◌}
use Rattle.std.proofs.Math.ListN.{set}
use Rattle.std.specs.List.{slice_get}
use Rattle.std.proofs.lemmas.Bool.{ltb-false}
use Rattle.std.proofs.lemmas.Option.{same_Some}
use Rattle.work_book.specs.Seat.{with_drawn, with_kept, as_lost}
use Rattle.work_book.specs.Book.{BookState, acts, job_of, is_marked, on_seat}
use Rattle.work_book.specs.Steps.{lease_of, answer_of, answers_of, after, run_of}
use Rattle.work_book.specs.Laws.{IsNothingLast}
use Rattle.work_book.specs.declared.steps.Step.{Step}
use Rattle.work_book.specs.declared.steps.Step.TheVariants.{Draw, Look, Settle, Loss}
use Rattle.work_book.specs.declared.steps.Answer.TheVariants as answer
use Rattle.work_book.proofs.StepsAreFair.{IsFair, step_fair, run_fair}

-- a later book has the jobs and tries of an earlier one, and no lower next number
pub record IsLater (old new : BookState) : Type 0 where
  pub jobs : new.jobs ≡ old.jobs
  pub tries : new.tries ≡ old.tries
  pub next : old.next ≤ new.next

pub one_later : (book : BookState) (step : Step) → IsLater book (after book step)
one_later book (Draw seat) = go (acts book seat && nat_lt book.next (book.jobs * book.tries))
  where
    go : (b : Bool) → IsLater book
        (if b then record (on_seat book seat (with_drawn book.next)) { next = book.next + 1 } else book)
    go true = record { jobs = refl; tries = refl; next = omega arith }
    go false = record { jobs = refl; tries = refl; next = omega arith }
one_later book (Look seat job) = record { jobs = refl; tries = refl; next = omega arith }
one_later book (Settle seat number) = go _
  where
    go : (b : Bool) → IsLater book (if b then record (on_seat book seat (with_kept (job_of book number))) {
      marks =
          set book.marks (job_of book number) true;
    } else book)
    go true = record { jobs = refl; tries = refl; next = omega arith }
    go false = record { jobs = refl; tries = refl; next = omega arith }
one_later book (Loss seat) = go (acts book seat)
  where
    go : (b : Bool) → IsLater book (if b then on_seat book seat as_lost else book)
    go true = record { jobs = refl; tries = refl; next = omega arith }
    go false = record { jobs = refl; tries = refl; next = omega arith }

all_later : (steps : List Step) (book : BookState) → IsLater book (run_of book steps)
all_later [] book = record { jobs = refl; tries = refl; next = omega arith }
all_later (step ∷ steps) book =
    let one = one_later book step in let more = all_later steps (after book step) in
    record {
      jobs = more.jobs ∙ one.jobs;
      tries = more.tries ∙ one.tries;
      next = let a = one.next in
          let b = more.next in omega arith;
    }

-- a step that answers `Nothing` finds all numbers drawn
told : (book : BookState) (step : Step) → IsFair book → answer_of book step ≡ answer.Nothing →
    book.next ≡ book.jobs * book.tries
told book (Draw seat) fair h = go (acts book seat) (nat_lt book.next (book.jobs * book.tries)) refl h
  where
    go : (a b : Bool) → nat_lt book.next (book.jobs * book.tries) ≡ b
        → (if a then (if b then answer.Lease (lease_of book book.next) else answer.Nothing) else answer.Refused)
        ≡ answer.Nothing → book.next ≡ book.jobs * book.tries
    go true true e h = cc
    go true false e h = let most = fair.next in let least = ltb-false _ _ e in omega arith
    go false b e h = cc
told book (Look seat job) fair h = go _ h
  where
    go : (a : Bool) → (if a then answer.Mark (is_marked book job) else answer.Refused) ≡ answer.Nothing →
        book.next ≡ book.jobs * book.tries
    go true h = cc
    go false h = cc
told book (Settle seat number) fair h = go _ _ h
  where
    go : (a b : Bool) → (if a then (if b then answer.Double else answer.Kept) else answer.Refused) ≡ answer.Nothing →
        book.next ≡ book.jobs * book.tries
    go true true h = cc
    go true false h = cc
    go false b h = cc
told book (Loss seat) fair h = go _ h
  where
    go : (a : Bool) → (if a then answer.Lost else answer.Refused) ≡ answer.Nothing → book.next ≡ book.jobs * book.tries
    go true h = cc
    go false h = cc

pub nothing_last : (steps : List Step) (book : BookState) → IsFair book → IsNothingLast book steps
nothing_last [] book fair k h = cc
nothing_last (step ∷ steps) book fair zero h = told book step fair (same_Some _ _ h)
nothing_last (step ∷ steps) book fair (suc k) h =
    let more = nothing_last steps (after book step) (step_fair book step fair) k h in
    let same = one_later book step in
    more ∙ (λ i. same.jobs i * same.tries i)

-- and it stays so
pub nothing_stays : (steps : List Step) (book : BookState) → IsFair book → (k : ℕ) →
    slice_get (answers_of book steps) k ≡ Some answer.Nothing → (run_of book steps).next ≡ book.jobs * book.tries
nothing_stays [] book fair k h = cc
nothing_stays (step ∷ steps) book fair zero h =
    let full = told book step fair (same_Some _ _ h) in
    let all = all_later (step ∷ steps) book in
    let most = (run_fair (step ∷ steps) book fair).next in
    let size : (run_of book (step ∷ steps)).jobs * (run_of book (step ∷ steps)).tries ≡ book.jobs * book.tries =
    λ i. all.jobs i * all.tries i in
    let grown = all.next in
    omega arith
nothing_stays (step ∷ steps) book fair (suc k) h =
    let more = nothing_stays steps (after book step) (step_fair book step fair) k h in
    let same = one_later book step in
    more ∙ (λ i. same.jobs i * same.tries i)
