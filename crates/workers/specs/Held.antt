-- The rows that a worker holds, beside the jobs that its seat kept, and why it ended.
use Rattle.std.specs.Prelude.{◌≡◌, ◌⊎◌, ℕ, ◌==◌, ◌+◌, ◌*◌, ◌<◌, ◌++◌, true, false, List, [], length, map, count_by}
use Rattle.std.specs.Prelude.{All, ⊤}
use Rattle.work_book.specs.Board.{seen_by, IsOf, SettledAs}
use Rattle.work_book.specs.Steps.{lease_among}
use Rattle.work_book.specs.Views.{knows}
use Rattle.work_book.specs.declared.lease.Lease.{Lease}
use Rattle.work_book.specs.declared.lease.Settled.{Settled}
use Rattle.work_book.specs.declared.lease.Settled.TheVariants.{Kept, Double}
use Rattle.work_book.specs.declared.rule.View.{View}
use Rattle.work_book.specs.declared.shared.Board.{Board}
use Rattle.collector.specs.Row.{RowData}
use Rattle.workers.specs.Study.{StudyData}
use Rattle.workers.specs.Rows.{IsRowOf}
use Rattle.workers.specs.Jobs.{IsRowOfJob}
use Rattle.workers.specs.declared.gates.Verdict.{Verdict}
use Rattle.workers.specs.declared.gates.Verdict.TheVariants.{Work, Lose, Vanish, Repeat}
use Rattle.workers.specs.declared.worker.Ending.{Ending}
use Rattle.workers.specs.declared.worker.Ending.TheVariants as ending
use Rattle.workers.specs.declared.worker.Next.{Next}
use Rattle.workers.specs.declared.worker.Next.TheVariants as next
use Rattle.workers.specs.declared.worker.Worked.{Worked}

-- how often a job stands in a list
abbrev pub count_in : ℕ → List ℕ → ℕ
count_in job jobs = count_by (λ x. x == job) jobs

-- what stands in one of two lists stands in the other
abbrev pub HaveSameJobs : List ℕ → List ℕ → Type 0
HaveSameJobs some other = (job : ℕ) → (0 < count_in job some → 0 < count_in job other)
    × (0 < count_in job other → 0 < count_in job some)

-- the job of a row, by its scenario and origin
abbrev pub job_of_row : StudyData → RowData → ℕ
job_of_row s row = row.scenario * length s.origins + row.origin

abbrev pub jobs_of_rows : StudyData → List RowData → List ℕ
jobs_of_rows s rows = map (job_of_row s) rows

-- each row is the study's row of its scenario and origin
abbrev pub AreRowsOf : StudyData → List RowData → Type 0
AreRowsOf s rows = All (λ (row : RowData). IsRowOf s row.scenario row.origin row) rows

-- the rows are the study's, and of exactly these jobs; a job may have its row twice
pub record HoldsRows (s : StudyData) (rows : List RowData) (kept : List ℕ) : Type 0 where
  pub are_rows : AreRowsOf s rows
  pub jobs : HaveSameJobs (jobs_of_rows s rows) kept

-- the worker holds so many more rows of a job if its seat kept it, and else no more
pub record HoldsMore (s : StudyData) (copies job : ℕ) (v w : View) (rows more : List RowData) : Type 0 where
  pub added : List RowData
  pub more_is : more ≡ rows ++ added
  pub are_rows : All (λ row. IsRowOfJob s job row) added
  pub count : length added + copies * length v.kept ≡ copies * length w.kept

-- what a gate may decide of a lease
abbrev pub Decides : Type 1
Decides = Lease → Verdict → Type 0

-- what a gate was told of a lease
abbrev pub WasTold : Type 1
WasTold = Lease → Settled → Type 0

-- what became of a lease whose job was kept: the gate let it be worked at, and was told that it was kept; or let it be
-- repeated, and was told of both settles, of which the second was a double
abbrev pub IsKeptAs : Decides → WasTold → Lease → Type 0
IsKeptAs decides was_told lease =
    was_told lease Kept × (decides lease Work ⊎ (decides lease Repeat × was_told lease Double))

-- so it was with a lease of the job
abbrev pub IsToldKept : Decides → WasTold → ℕ → Type 0
IsToldKept decides was_told job = (lease : Lease) × (lease.job ≡ job) × IsKeptAs decides was_told lease

-- so it was with a lease of each of these jobs
abbrev pub AreTold : Decides → WasTold → List ℕ → Type 0
AreTold decides was_told jobs = All (IsToldKept decides was_told) jobs

-- a lease's job was settled, and the gate was told what came of it
abbrev pub IsHeard : WasTold → Lease → View → View → Type 0
IsHeard was_told lease v w = (settled : Settled) × SettledAs v lease settled w × was_told lease settled

-- what a seat knows to be settled it knows afterwards too
abbrev pub KnowsAsMuch : View → View → Type 0
KnowsAsMuch v w = (job : ℕ) → knows v job ≡ true → knows w job ≡ true

-- nothing is left to do with a lease: its job is settled, or the gate decided that it is lost
abbrev pub IsDone : Decides → Lease → View → Type 0
IsDone decides lease v = (knows v lease.job ≡ true) ⊎ decides lease Lose

-- nothing is left to do with the numbers that a worker drew
abbrev pub AreDone : Decides → ℕ → List ℕ → View → Type 0
AreDone decides jobs numbers v = All (λ number. IsDone decides (lease_among jobs number) v) numbers

-- the gate decided that the worker vanishes at a lease that it drew, and nothing is left to do with the others
pub record HasVanished (decides : Decides) (jobs : ℕ) (v : View) : Type 0 where
  pub number : ℕ
  pub drawn : 0 < count_in number v.drawn
  pub vanishes : decides (lease_among jobs number) Vanish
  pub done : All (λ n. IsDone decides (lease_among jobs n) v ⊎ (n ≡ number)) v.drawn

-- why a worker ended: all numbers are drawn, and nothing is left to do with those that it drew; or the gate let it
-- vanish; or it ran out of memory, before it was told that all are drawn; or it wasn't started, and drew nothing
abbrev pub HasEnded : Decides → Board → View → Ending → Type 0
HasEnded decides board v ending.Nothing = (v.told ≡ true) × AreDone decides board.jobs v.drawn v
HasEnded decides board v ending.Vanished = HasVanished decides board.jobs v
HasEnded decides board v ending.Short = v.told ≡ false
HasEnded decides board v ending.Refused = v.drawn ≡ []

-- what a worker does after a lease: it draws another where nothing is left to do; else the gate decided that it
-- vanishes, or it ran out of memory
abbrev pub LeavesAs : Decides → Lease → View → Next → Type 0
LeavesAs decides lease v next.Draw = IsDone decides lease v
LeavesAs decides lease v (next.End ending.Nothing) = ⊥
LeavesAs decides lease v (next.End ending.Vanished) = decides lease Vanish
LeavesAs decides lease v (next.End ending.Short) = ⊤
LeavesAs decides lease v (next.End ending.Refused) = ⊥

-- how many rows a worker holds of a job that it kept, by what the gate decided of its lease
abbrev pub copies_for : Verdict → ℕ
copies_for Work = 1
copies_for Lose = 0
copies_for Vanish = 0
copies_for Repeat = 2

-- what a worker that draws another lease did with this one: it found its job settled; or it did what the gate decided,
-- so that it holds that many more rows of the job if its seat kept it
abbrev pub DoesAs : Decides → StudyData → Lease → View → View → List RowData → List RowData → Next → Type 0
DoesAs decides s lease v w rows more next.Draw =
    ((knows w lease.job ≡ true) × (more ≡ rows))
    ⊎ ((verdict : Verdict) × decides lease verdict × HoldsMore s (copies_for verdict) lease.job v w rows more)
DoesAs decides s lease v w rows more (next.End _) = ⊤

-- what a worker promises: its seat is of the board, with one share, its rows are the study's, of exactly the jobs that
-- its seat kept, the gate was told of each of them, and the worker ended for this reason
pub record WorkedFor (board : Board) (s : StudyData) (decides : Decides) (was_told : WasTold) (w : Worked) : Type 0
  where
    pub of_board : IsOf board w.seat
    pub share : (seen_by w.seat).share ≡ 1
    pub holds : HoldsRows s w.rows.items (seen_by w.seat).kept
    pub told : AreTold decides was_told (seen_by w.seat).kept
    pub ended : HasEnded decides board (seen_by w.seat) w.ending
