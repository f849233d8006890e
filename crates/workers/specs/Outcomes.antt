-- What a run of workers ends with, by what its seat kept and why its workers ended.
use Rattle.std.specs.Prelude.{◌≡◌, ◌⊎◌, ◌+◌, ◌-◌, ◌*◌, ◌<◌, ◌≤◌, ℕ, Bool, false, true, List, [], ◌∷◌, length, ⊤}
use Rattle.std.specs.List.{list_any}
use Rattle.work_book.specs.Board.{seen_by}
use Rattle.work_book.specs.Book.{job_among}
use Rattle.work_book.specs.Laws.{kept_in}
use Rattle.work_book.specs.Steps.{lease_among}
use Rattle.work_book.specs.Views.{first_view, merged, seat_of, stepped}
use Rattle.work_book.specs.declared.lease.Lease.{Lease}
use Rattle.work_book.specs.declared.rule.View.{View}
use Rattle.work_book.specs.declared.shared.Board.{Board}
use Rattle.workers.specs.Study.{StudyData}
use Rattle.workers.specs.Jobs.{jobs_of}
use Rattle.workers.specs.Held.{Decides, WasTold, IsToldKept}
use Rattle.workers.specs.Threads.{AreWorked}
use Rattle.workers.specs.declared.gates.Verdict.TheVariants.{Lose, Vanish}
use Rattle.workers.specs.declared.faults.RunFault.{RunFault}
use Rattle.workers.specs.declared.faults.RunFault.TheVariants.{Memory, Spawn, Unfinished}
use Rattle.workers.specs.declared.worker.Ending.{Ending}
use Rattle.workers.specs.declared.worker.Ending.TheVariants as ending
use Rattle.workers.specs.declared.worker.Worked.{Worked}

-- the seat kept each job of the study, once
abbrev pub KeptEachJob : StudyData → View → Type 0
KeptEachJob s v = (job : ℕ) → job < jobs_of s → kept_in job (seat_of v) ≡ 1

-- a place of the study whose job the seat didn't keep; it kept the job of each place before, once
pub record IsFirstUnkept (s : StudyData) (v : View) (scenario origin : ℕ) : Type 0 where
  pub scenario_in : scenario < length s.networks
  pub origin_in : origin < length s.origins
  pub unkept : kept_in (scenario * length s.origins + origin) (seat_of v) ≡ 0
  pub before : (job : ℕ) → job < scenario * length s.origins + origin → kept_in job (seat_of v) ≡ 1

-- the seat, when so many were split off, by a step each
abbrev pub without : ℕ → View → View
without n v = record v { share = v.share - n; steps = v.steps + n }

-- the seat that took in these workers' seats, one after the other, by two steps each
abbrev pub joined : View → List Worked → View
joined v [] = v
joined v (w ∷ worked) = joined (stepped (merged v (seen_by w.seat))) worked

-- the worker ran out of memory
abbrev pub is_short : Ending → Bool
is_short ending.Nothing = false
is_short ending.Vanished = false
is_short ending.Short = true
is_short ending.Refused = false

abbrev pub is_some_short : List Worked → Bool
is_some_short worked = list_any (λ w. is_short w.ending) worked

-- the worker's thread was started
abbrev pub is_started : Ending → Bool
is_started ending.Nothing = true
is_started ending.Vanished = true
is_started ending.Short = true
is_started ending.Refused = false

abbrev pub is_some_started : List Worked → Bool
is_some_started worked = list_any (λ w. is_started w.ending) worked

-- why workers left a place empty: one of them ran out of memory; or the start of each was refused; or else the named
-- place is the first one without a row
abbrev pub IsWhy : StudyData → View → List Worked → RunFault → Type 0
IsWhy s v worked Memory = is_some_short worked ≡ true
IsWhy s v worked Spawn = (0 < jobs_of s) × (is_some_started worked ≡ false)
IsWhy s v worked (Unfinished scenario origin) =
    (is_some_started worked ≡ true) × (is_some_short worked ≡ false) × IsFirstUnkept s v scenario origin

-- so many seats were split off, by a step each, and all shares came back
pub record HasSplit (workers : ℕ) (start v : View) : Type 0 where
  pub steps : start.steps + workers ≤ v.steps
  pub share : v.share ≡ start.share

-- a place that a fault names is the first one whose job the seat didn't keep
abbrev pub NamesFirst : StudyData → View → RunFault → Type 0
NamesFirst s v Memory = ⊤
NamesFirst s v Spawn = ⊤
NamesFirst s v (Unfinished scenario origin) = IsFirstUnkept s v scenario origin

-- so many seats were split off for workers, each of them ended as it promised, the seat took in theirs, and that is why
-- there is no matrix
pub record IsLeft (s : StudyData) (decides : Decides) (was_told : WasTold) (board : Board) (workers : ℕ)
    (start v : View) (fault : RunFault) : Type 0 where
  pub worked : List Worked
  pub count : length worked ≡ workers
  pub ended : AreWorked board s decides was_told worked
  pub view_is : v ≡ joined (without workers start) worked
  pub why : IsWhy s v worked fault

-- why a run of workers gave no matrix: memory ran out before the start, and nothing was drawn; or what its workers left
abbrev pub IsFaultOf : StudyData → Decides → WasTold → Board → ℕ → View → View → RunFault → Type 0
IsFaultOf s decides was_told board workers start v fault =
    ((fault ≡ Memory) × (v.drawn ≡ start.drawn) × (v.kept ≡ start.kept))
    ⊎ IsLeft s decides was_told board workers start v fault

-- the job of a place
abbrev pub job_at : StudyData → ℕ → ℕ → ℕ
job_at s scenario origin = scenario * length s.origins + origin

-- the gate decided that a lease is lost, or that its worker vanishes
abbrev pub IsLetGo : Decides → Lease → Type 0
IsLetGo decides lease = decides lease Lose ⊎ decides lease Vanish

-- a gate left a place of a study empty where each job is offered so often: it was told of each job before that of the
-- place that it was kept; and it let each lease of the place's job go that was drawn. All were drawn, unless the gate let
-- a worker vanish at one that was
pub record IsLeftEmpty (s : StudyData) (decides : Decides) (was_told : WasTold) (tries scenario origin : ℕ) : Type 0
  where
    pub scenario_in : scenario < length s.networks
    pub origin_in : origin < length s.origins
    pub before : (job : ℕ) → job < job_at s scenario origin → IsToldKept decides was_told job
    pub next : ℕ
    pub within : next ≤ jobs_of s * tries
    pub drawn : (next ≡ jobs_of s * tries)
        ⊎ ((number : ℕ) × (number < next) × decides (lease_among (jobs_of s) number) Vanish)
    pub let_go : (number : ℕ) → number < next → job_among (jobs_of s) number ≡ job_at s scenario origin →
        IsLetGo decides (lease_among (jobs_of s) number)

-- what a fault says of what the gate itself decided and was told, whatever board served
abbrev pub IsByGate : StudyData → Decides → WasTold → ℕ → RunFault → Type 0
IsByGate s decides was_told tries Memory = ⊤
IsByGate s decides was_told tries Spawn = 0 < jobs_of s
IsByGate s decides was_told tries (Unfinished scenario origin) = IsLeftEmpty s decides was_told tries scenario origin

-- ... on a new board, where each job is offered so often
pub record IsFaultOnBoard (s : StudyData) (decides : Decides) (was_told : WasTold) (workers tries : ℕ)
    (fault : RunFault) : Type 0 where
  pub board : Board
  pub jobs : board.jobs ≡ jobs_of s
  pub tries_are : board.tries ≡ tries
  pub view : View
  pub why : IsFaultOf s decides was_told board workers (first_view (jobs_of s * tries)) view fault
  pub by_gate : IsByGate s decides was_told tries fault

-- ... or memory ran out for the board
abbrev pub IsFaultOfNew : StudyData → Decides → WasTold → ℕ → ℕ → RunFault → Type 0
IsFaultOfNew s decides was_told workers tries fault =
    (fault ≡ Memory) ⊎ IsFaultOnBoard s decides was_told workers tries fault
