-- A number that a seat drew is below the next one, so where there is one there are jobs.
use Rattle.std.proofs.Common.{◌≡◌, ◌<◌, ◌*◌, ◌==◌, ℕ, zero, suc, List, true, length, get_or, arith, subst, sym}
use Rattle.std.proofs.lemmas.List.Folds.{Any-from_list_any}
use Rattle.std.proofs.lemmas.Bool.{eqb-true}
use Rattle.work_book.specs.Seat.{SeatState, has_drawn}
use Rattle.work_book.specs.Book.{BookState, IsBook, AllDrawnBelow}

drawn_below : (n number : ℕ) (seats : List SeatState) (k : ℕ) (seat : SeatState) → AllDrawnBelow n seats →
    k < length seats → seat ≡ get_or seats k seat
    → has_drawn number seat ≡ true → number < n
drawn_below n number seats k seat all here at found =
    let some = Any-from_list_any (λ x. x == number) seat.drawn found in
    let of_seat = subst (λ (s : SeatState). (i d : ℕ) → i < length s.drawn →
    get_or s.drawn i d < n) (sym at) (all k seat here) in
    let low = of_seat some.0 some.1 some.2 in
    let same = eqb-true some.1 number some.4 in
    let there : get_or seat.drawn some.0 some.1 ≡ some.1 = some.3 in
    omega arith

-- a product that is above a number has a first factor
pub first_factor : (a b n : ℕ) → n < a * b → 0 < a
first_factor zero b n h = omega arith
first_factor (suc a) b n h = omega arith

pub some_jobs : (book : BookState) (number k : ℕ) (seat : SeatState) → IsBook book → k < length book.seats →
    seat ≡ get_or book.seats k seat
    → has_drawn number seat ≡ true → 0 < book.jobs
some_jobs book number k seat is here at found =
    let low = drawn_below book.next number book.seats k seat is.drawn here at found in
    let most = is.next in
    first_factor book.jobs book.tries number (omega arith)
