-- A step of a book leads to a book.
use Rattle.std.proofs.Common.{◌≡◌, ◌<◌, ◌+◌, ◌*◌, ℕ, List, Bool, true, false, Option, Some, None, arith, ◌∙◌, refl}
use Rattle.std.proofs.Common.{subst, ◌&&◌, nat_lt, if◌then◌else◌, [], ◌∷◌}
use Rattle.std.proofs.Math.ListN.{set}
use Rattle.std.specs.List.{slice_get, All}
use Rattle.std.specs.Option.{option_map_or}
use Rattle.std.proofs.lemmas.Bool.Decides.{nat_tests}
use Rattle.std.proofs.lemmas.List.{length-set}
use Rattle.std.proofs.lemmas.List.Elements.{All-set, All-push, All-weaker}
use Rattle.std.proofs.lemmas.Option.{slice_get_within, get_or_from_slice_get}
use Rattle.work_book.specs.Seat.{SeatState, with_drawn, with_kept, as_lost}
use Rattle.work_book.specs.Book.{BookState, IsBook, AllDrawnBelow, acts, job_of, on_seat}
use Rattle.work_book.specs.Steps.{after, run_of}
use Rattle.work_book.specs.declared.steps.Step.{Step}
use Rattle.work_book.specs.declared.steps.Step.TheVariants.{Draw, Look, Settle, Loss}

-- the numbers of a seat are below n
abbrev IsSeatBelow : ℕ → SeatState → Type 0
IsSeatBelow n s = All (λ number. number < n) s.drawn

-- a seat that is changed, and whose numbers stay below n
change_below : (n : ℕ) (book : BookState) (seat : ℕ) (f : SeatState → SeatState) →
    ((s : SeatState) → IsSeatBelow n s → IsSeatBelow n (f s)) → AllDrawnBelow n book.seats
    → AllDrawnBelow n (on_seat book seat f).seats
change_below n book seat f keeps all = go (slice_get book.seats seat) refl
  where
    go : (o : Option SeatState) → slice_get book.seats seat ≡ o →
        AllDrawnBelow n (option_map_or (λ (s : SeatState). set book.seats seat (f s)) o book.seats)
    go None e = all
    go (Some s) e =
        let here = all seat s (slice_get_within book.seats seat s e) in
        let of_seat : IsSeatBelow n s = subst (λ (t : SeatState). IsSeatBelow n t)
        (get_or_from_slice_get book.seats seat s s e) here in
        All-set (λ (t : SeatState). IsSeatBelow n t) book.seats seat (f s) (keeps s of_seat) all

seat_higher : (n : ℕ) (s : SeatState) → IsSeatBelow n s → IsSeatBelow (n + 1) s
seat_higher n s below = All-weaker (λ number. number < n) (λ number. number
    < n + 1) (λ number l. omega arith) s.drawn below

higher : (n : ℕ) (seats : List SeatState) → AllDrawnBelow n seats → AllDrawnBelow (n + 1) seats
higher n seats all = All-weaker (λ (s : SeatState). IsSeatBelow n s) (λ (s : SeatState). IsSeatBelow (n + 1) s)
    (seat_higher n) seats all

drawn : (book : BookState) (seat : ℕ) (b : Bool) → IsBook book → (b ≡ true → book.next < book.jobs * book.tries)
    → IsBook (if b then record (on_seat book seat (with_drawn book.next)) { next = book.next + 1 } else book)
drawn book seat false is low = is
drawn book seat true is low = record {
  marks = is.marks;
  few_jobs = is.few_jobs;
  few_tries = is.few_tries;
  next = let l = low refl in omega arith;
  drawn = change_below (book.next + 1) book seat (with_drawn book.next)
      (λ s below. All-push (λ number. number < book.next + 1) s.drawn book.next below (omega arith))
      (higher book.next book.seats is.drawn);
}

settled : (book : BookState) (seat job : ℕ) (b : Bool) → IsBook book →
    IsBook (if b then record (on_seat book seat (with_kept job)) { marks = set book.marks job true } else book)
settled book seat job false is = is
settled book seat job true is = record {
  marks = length-set book.marks job true ∙ is.marks;
  few_jobs = is.few_jobs;
  few_tries = is.few_tries;
  next = is.next;
  drawn = change_below book.next book seat (with_kept job) (λ s below. below) is.drawn;
}

lost : (book : BookState) (seat : ℕ) (b : Bool) → IsBook book → IsBook (if b then on_seat book seat as_lost else book)
lost book seat false is = is
lost book seat true is = record {
  marks = is.marks;
  few_jobs = is.few_jobs;
  few_tries = is.few_tries;
  next = is.next;
  drawn = change_below book.next book seat as_lost (λ s below. below) is.drawn;
}

step_book : (book : BookState) (step : Step) → IsBook book → IsBook (after book step)
step_book book (Draw seat) is = drawn book seat (acts book seat && nat_lt book.next (book.jobs * book.tries)) is
    (λ h. low _ _ _ h)
  where
    low : (a : Bool) (m n : ℕ) → (a && nat_lt m n) ≡ true → m < n
    low a m n h = grind (arith, nat_tests)
step_book book (Look seat job) is = is
step_book book (Settle seat number) is = settled book seat (job_of book number) _ is
step_book book (Loss seat) is = lost book seat _ is

pub run_book : (steps : List Step) (book : BookState) → IsBook book → IsBook (run_of book steps)
run_book [] book is = is
run_book (step ∷ steps) book is = run_book steps (after book step) (step_book book step is)
