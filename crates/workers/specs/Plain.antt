-- The jobs of a study as one seat does them: what one job changes, and how far the seat is.
use Rattle.std.specs.Prelude.{◌≡◌, ◌≢◌, ℕ, ◌≤◌, true, false, None}
use Rattle.work_book.specs.Book.{BookState, acts, is_marked}
use Rattle.work_book.specs.Steps.{answer_of, after}
use Rattle.work_book.specs.declared.lease.Lease.{Lease}
use Rattle.work_book.specs.declared.steps.Step.TheVariants.{Draw, Settle}
use Rattle.work_book.specs.declared.steps.Answer.TheVariants as answer
use Rattle.collector.specs.Row.{RowData}
use Rattle.collector.specs.Places.{PlacesData, row_at}
use Rattle.collector.specs.Offers.{after_offer}
use Rattle.workers.specs.Study.{StudyData}
use Rattle.workers.specs.Jobs.{jobs_of, IsRowOfJob, ArePlaces, AreFilledBelow}

-- seat 0 draws a lease and settles it, and the row of its job is offered exactly where it is kept
pub record DoesJob (s : StudyData) (old new : BookState) (places offered : PlacesData) : Type 0 where
  pub lease : Lease
  pub drawn : answer_of old (Draw 0) ≡ answer.Lease lease
  pub settled : new ≡ after (after old (Draw 0)) (Settle 0 lease.number)
  pub kept : answer_of (after old (Draw 0)) (Settle 0 lease.number) ≡ answer.Kept →
      (row : RowData) × IsRowOfJob s lease.job row × (offered ≡ after_offer places row)
  pub passed : answer_of (after old (Draw 0)) (Settle 0 lease.number) ≢ answer.Kept → offered ≡ places

-- seat 0 draws no lease, and nothing changes
pub record HasNoJob (old new : BookState) (places offered : PlacesData) : Type 0 where
  pub drawn : (lease : Lease) → answer_of old (Draw 0) ≢ answer.Lease lease
  pub book : new ≡ old
  pub places_are : offered ≡ places

-- on the way: the jobs below the next number are done, and no other is settled or has a row
pub record IsUnderWay (s : StudyData) (book : BookState) (places : PlacesData) : Type 0 where
  pub jobs : book.jobs ≡ jobs_of s
  pub tries : book.tries ≡ 1
  pub seat : acts book 0 ≡ true
  pub next : book.next ≤ jobs_of s
  pub open_jobs : (job : ℕ) → book.next ≤ job → is_marked book job ≡ false
  pub places_are : ArePlaces s places
  pub filled : AreFilledBelow s book.next places
  pub rest : (job : ℕ) → book.next ≤ job → row_at places job ≡ None
