-- What is so of a run at a gate is so whatever the gate decides and is told.
use Rattle.std.proofs.Common.{◌≡◌, ◌⊎◌, ◌<◌, ◌*◌, inl, inr, ℕ}
use Rattle.std.specs.Prelude.{⊤}
use Rattle.work_book.specs.Board.{seen_by}
use Rattle.work_book.specs.Steps.{lease_among}
use Rattle.work_book.specs.declared.lease.Lease.{Lease}
use Rattle.work_book.specs.declared.rule.View.{View}
use Rattle.work_book.specs.declared.shared.Board.{Board}
use Rattle.workers.specs.Study.{StudyData}
use Rattle.workers.specs.Jobs.{jobs_of}
use Rattle.workers.specs.Held.{Decides, WasTold, HasEnded, IsDone, IsKeptAs, IsToldKept, WorkedFor}
use Rattle.workers.specs.Outcomes.{IsByGate, IsFaultOf, IsFaultOfNew, IsLetGo}
use Rattle.workers.specs.declared.gates.Verdict.TheVariants.{Vanish}
use Rattle.workers.specs.declared.faults.RunFault.{RunFault}
use Rattle.workers.specs.declared.faults.RunFault.TheVariants.{Memory, Spawn, Unfinished}
use Rattle.workers.specs.declared.worker.Ending.{Ending}
use Rattle.workers.specs.declared.worker.Ending.TheVariants as ending
use Rattle.workers.specs.declared.worker.Worked.{Worked}

abbrev pub any_decides : Decides
any_decides = λ _ _. ⊤

abbrev pub any_told : WasTold
any_told = λ _ _. ⊤

module _ (decides : Decides) (was_told : WasTold) where
  any_done : (lease : Lease) (v : View) → IsDone decides lease v → IsDone any_decides lease v
  any_done lease v (inl h) = inl h
  any_done lease v (inr h) = inr tt

  any_but : (lease : Lease) (v : View) (number n : ℕ) → IsDone decides lease v ⊎ (n ≡ number) →
      IsDone any_decides lease v ⊎ (n ≡ number)
  any_but lease v number n (inl h) = inl (any_done lease v h)
  any_but lease v number n (inr h) = inr h

  any_kept : (lease : Lease) → IsKeptAs decides was_told lease → IsKeptAs any_decides any_told lease
  any_kept lease h = (tt, inl tt)

  any_job : (job : ℕ) → IsToldKept decides was_told job → IsToldKept any_decides any_told job
  any_job job h = (h.0, h.1, any_kept h.0 h.2)

  any_ended : (board : Board) (v : View) (e : Ending) → HasEnded decides board v e → HasEnded any_decides board v e
  any_ended board v ending.Nothing h = (h.0, λ k d below. any_done _ v (h.1 k d below))
  any_ended board v ending.Vanished h = record {
    number = h.number;
    drawn = h.drawn;
    vanishes = tt;
    done = λ k d below. any_but _ v h.number _ (h.done k d below);
  }
  any_ended board v ending.Short h = h
  any_ended board v ending.Refused h = h

  any_worked : (board : Board) (s : StudyData) (w : Worked) → WorkedFor board s decides was_told w →
      WorkedFor board s any_decides any_told w
  any_worked board s w h = record {
    of_board = h.of_board;
    share = h.share;
    holds = h.holds;
    told = λ k d below. any_job _ (h.told k d below);
    ended = any_ended board (seen_by w.seat) w.ending h.ended;
  }

  any_fault : (s : StudyData) (board : Board) (workers : ℕ) (start v : View) (e : RunFault) →
      IsFaultOf s decides was_told board workers start v e
      → IsFaultOf s any_decides any_told board workers start v e
  any_fault s board workers start v e (inl h) = inl h
  any_fault s board workers start v e (inr h) = inr (record {
    worked = h.worked;
    count = h.count;
    ended = λ k d below. any_worked board s _ (h.ended k d below);
    view_is = h.view_is;
    why = h.why;
  })

  any_let_go : (lease : Lease) → IsLetGo decides lease → IsLetGo any_decides lease
  any_let_go lease h = inl tt

  any_all : (next limit jobs : ℕ) →
      (next ≡ limit) ⊎ ((number : ℕ) × (number < next) × decides (lease_among jobs number) Vanish)
      → (next ≡ limit) ⊎ ((number : ℕ) × (number < next) × any_decides (lease_among jobs number) Vanish)
  any_all next limit jobs (inl h) = inl h
  any_all next limit jobs (inr h) = inr (h.0, h.1, tt)

  pub any_by_gate : (s : StudyData) (tries : ℕ) (e : RunFault) → IsByGate s decides was_told tries e →
      IsByGate s any_decides any_told tries e
  any_by_gate s tries Memory h = h
  any_by_gate s tries Spawn h = h
  any_by_gate s tries (Unfinished scenario origin) h = record {
    scenario_in = h.scenario_in;
    origin_in = h.origin_in;
    before = λ job below. any_job job (h.before job below);
    next = h.next;
    within = h.within;
    drawn = any_all h.next (jobs_of s * tries) (jobs_of s) h.drawn;
    let_go = λ number below is. any_let_go _ (h.let_go number below is);
  }

  pub any_new : (s : StudyData) (workers tries : ℕ) (e : RunFault) → IsFaultOfNew s decides was_told workers tries e →
      IsFaultOfNew s any_decides any_told workers tries e
  any_new s workers tries e (inl h) = inl h
  any_new s workers tries e (inr h) = inr (record {
    board = h.board;
    jobs = h.jobs;
    tries_are = h.tries_are;
    view = h.view;
    why = any_fault s h.board workers _ h.view e h.why;
    by_gate = any_by_gate s tries e h.by_gate;
  })
