-- The book that the words and the views of a board show.
use Rattle.std.specs.Prelude.{◌*◌, ◌+◌, ℕ, min, map, drop, nat_lt, List, slice_index}
use Rattle.work_book.specs.Book.{BookState}
use Rattle.work_book.specs.Views.{seat_of}
use Rattle.work_book.specs.declared.rule.Extent.{Extent}
use Rattle.work_book.specs.declared.rule.View.{View}

-- the word of a job, its mark: 0, or the number that settled the job, plus 1
abbrev pub mark_of : List ℕ → ℕ → ℕ
mark_of words job = slice_index words (job + 1)

-- the first word counts draws; the next number is no higher than where the numbers stop
abbrev pub next_of : ℕ → List ℕ → ℕ
next_of limit words = min (slice_index words 0) limit

-- a job is marked where its word isn't 0, and each view is a seat
abbrev pub shown : Extent → List ℕ → List View → BookState
shown k words views = record {
  jobs = k.jobs;
  tries = k.tries;
  next = next_of (k.jobs * k.tries) words;
  marks = map (λ word. nat_lt 0 word) (drop 1 words);
  seats = map seat_of views;
}
