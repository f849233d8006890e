-- What a worker did with a lease is what the gate decided of it.
use Rattle.std.proofs.Common.{◌≡◌, ◌*◌, ◌+◌, ◌∙◌, ap, inr, length, List, ℕ, Result, Ok, Err, sym}
use Rattle.std.specs.Prelude.{IfErr, IfOk}
use Rattle.work_book.specs.declared.lease.Lease.{Lease}
use Rattle.work_book.specs.declared.rule.View.{View}
use Rattle.collector.specs.Row.{RowData}
use Rattle.workers.specs.Study.{StudyData}
use Rattle.workers.specs.Held.{Decides, DoesAs, HoldsMore, copies_for}
use Rattle.workers.specs.declared.gates.Verdict.{Verdict}
use Rattle.workers.specs.declared.worker.Ending.TheVariants.{Short}
use Rattle.workers.specs.declared.worker.Next.{Next}
use Rattle.workers.specs.declared.worker.Next.TheVariants.{Draw, End}

module _ (decides : Decides) (s : StudyData) (lease : Lease) (v w after : View) (rows more : List RowData)
    (same : w.kept ≡ v.kept) where
  -- a look at a job keeps none
  from_look : (copies : ℕ) → HoldsMore s copies lease.job w after rows more →
      HoldsMore s copies lease.job v after rows more
  from_look copies h = record {
    added = h.added;
    more_is = h.more_is;
    are_rows = h.are_rows;
    count = ap (λ (jobs : List ℕ). length h.added + copies * length jobs) (sym same) ∙ h.count;
  }

  -- after what the gate decided
  pub does_as : {T E : Type 0} (verdict : Verdict) (done : Result T E) (n : Next) → decides lease verdict →
      IfOk done (λ _. HoldsMore s (copies_for verdict) lease.job w after rows more) →
      IfOk done (λ _. n ≡ Draw) → IfErr done (λ _. n ≡ End Short) → DoesAs decides s lease v after rows more n
  does_as verdict (Ok u) n decided held draws short =
      rw draws (inr (verdict, decided, from_look (copies_for verdict) held))
  does_as verdict (Err e) n decided held draws short = rw short tt
