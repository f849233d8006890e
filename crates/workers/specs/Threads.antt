-- The seats with which threads are started, and what they give back.
use Rattle.std.specs.Prelude.{◌≡◌, List, [], All}
use Rattle.work_book.specs.declared.shared.Board.{Board}
use Rattle.work_book.specs.declared.shared.WorkSeat.{WorkSeat}
use Rattle.work_book.specs.Board.{seen_by, IsOf}
use Rattle.workers.specs.Study.{StudyData, StudyFits}
use Rattle.workers.specs.Jobs.{jobs_of}
use Rattle.workers.specs.Held.{Decides, WasTold, WorkedFor}
use Rattle.workers.specs.declared.worker.Worked.{Worked}

-- the study is within its limits, and the board has one job for each of its places
pub record AreOfOneStudy (board : Board) (s : StudyData) : Type 0 where
  pub fits : StudyFits s
  pub jobs : board.jobs ≡ jobs_of s

-- the seat is of this board, with one share, and drew and kept nothing yet
pub record IsReady (board : Board) (seat : WorkSeat) : Type 0 where
  pub of_board : IsOf board seat
  pub share : (seen_by seat).share ≡ 1
  pub drawn : (seen_by seat).drawn ≡ []
  pub kept : (seen_by seat).kept ≡ []

abbrev pub AreReady : Board → List WorkSeat → Type 0
AreReady board seats = All (λ seat. IsReady board seat) seats

-- what each worker promised
abbrev pub AreWorked : Board → StudyData → Decides → WasTold → List Worked → Type 0
AreWorked board s decides was_told all = All (λ worked. WorkedFor board s decides was_told worked) all
