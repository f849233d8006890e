-- What a closed board shows is what some run of a book shows.
use Rattle.std.specs.Prelude.{◌≡◌, ◌∷◌, [], ℕ, List}
use Rattle.work_book.specs.Book.{BookState, is_marked}
use Rattle.work_book.specs.Laws.{drawn_count, kept_count, reached}
use Rattle.work_book.specs.Board.{book_of, Closes}
use Rattle.work_book.specs.declared.steps.Step.{Step}
use Rattle.work_book.specs.declared.rule.View.{View}
use Rattle.work_book.specs.declared.shared.Closed.{Closed}

-- two books have the same next number and settled jobs, and each number was drawn, and each job kept, equally often
pub record TellsTheSame (a b : BookState) : Type 0 where
  pub next : a.next ≡ b.next
  pub marks : (job : ℕ) → is_marked a job ≡ is_marked b job
  pub drawn : (number : ℕ) → drawn_count number a ≡ drawn_count number b
  pub kept : (job : ℕ) → kept_count job a ≡ kept_count job b

-- a board that is closed by the only seat left, of which joined seats are parts, shows what some run of one seat shows
abbrev pub IsSomeRun : View → Closed → Type 0
IsSomeRun v closed = Closes v closed → v.share ≡ 65536 →
    (steps : List Step) × TellsTheSame (reached closed.jobs closed.tries 1 steps) (book_of closed (v ∷ []))
