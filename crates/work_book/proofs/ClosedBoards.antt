-- What a closed board shows is what some run of a book shows.
use Rattle.std.proofs.Common.{◌∷◌, [], ℕ, ◌*◌, ◌≤◌, List, Bool, nat_lt, if◌then◌else◌, sym, ap, ◌∙◌, arith}
use Rattle.std.specs.Slots.{slots_items}
use Rattle.work_book.specs.Book.{BookState, is_marked}
use Rattle.work_book.specs.Board.{book_of}
use Rattle.work_book.specs.Runs.{IsSomeRun}
use Rattle.work_book.specs.Shown.{next_of}
use Rattle.work_book.specs.declared.rule.View.{View}
use Rattle.work_book.specs.declared.shared.Closed.{Closed}
use Rattle.work_book.proofs.StepsAreFair.{reached_fair}
use Rattle.work_book.proofs.RunsOfOneSeat.{leads}

next_within : (limit : ℕ) (words : List ℕ) → next_of limit words ≤ limit
next_within limit words = omega arith

pub some_run : (v : View) (closed : Closed) → IsSomeRun v closed
some_run v closed ends whole =
    let book : BookState = book_of closed (v ∷ []) in
    let run = leads closed.jobs closed.tries book.next (is_marked book)
    (next_within (closed.jobs * closed.tries) (slots_items closed.words.words)) ends.numbers in
    let fair = reached_fair closed.jobs closed.tries 1 run.0 in (
      run.0,
      record {
        next = run.1.0;
        marks = run.1.1;
        drawn = λ n. fair.drawn n ∙ ap (λ (m : ℕ). if nat_lt n m then 1 else 0) run.1.0 ∙ sym (ends.all_drawn whole n);
        kept = λ j. fair.kept j ∙ ap (λ (b : Bool). if b then 1 else 0) (run.1.1 j) ∙ sym (ends.all_kept whole j);
      },
    )
