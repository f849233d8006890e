-- A study whose gate lets each lease be worked at is never left unfinished.
use Rattle.std.proofs.Common.{◌≡◌, ◌≤◌, ℕ, inl, inr}
use Rattle.std.specs.Prelude.{⊤}
use Rattle.workers.specs.Outcomes.{IsFaultOfNew}
use Rattle.workers.specs.Study.{StudyData}
use Rattle.workers.specs.declared.faults.RunFault.TheVariants.{Memory, Unfinished}
use Rattle.workers.specs.declared.gates.Verdict.TheVariants.{Work}
use Rattle.workers.proofs.LeftEmpty.{open_leaves_none}
use Rattle.studies.specs.Laws.{OpenStudiesFinish}

unfinished_is_no_memory : (scenario origin : ℕ) → Unfinished scenario origin ≡ Memory → ⊥
unfinished_is_no_memory scenario origin h = cc

finished : (study : StudyData) (workers tries scenario origin : ℕ) → 1 ≤ tries →
    IsFaultOfNew study (λ _ verdict. verdict ≡ Work) (λ _ _. ⊤) workers tries (Unfinished scenario origin) → ⊥
finished study workers tries scenario origin some (inl memory) = unfinished_is_no_memory scenario origin memory
finished study workers tries scenario origin some (inr h) =
    open_leaves_none study (λ _ _. ⊤) tries scenario origin some h.by_gate

pub open_finish : OpenStudiesFinish
open_finish i s scenario origin some (inl h) = finished h.study s.workers s.tries scenario origin some h.why
open_finish i s scenario origin some (inr h) = h
