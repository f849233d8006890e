use Rattle.std.proofs.Common.{◌-◌}
use Rattle.workers.specs.Study.{study_of}
use Rattle.workers.specs.Jobs.{jobs_of}
use Rattle.workers.specs.Plain.{IsUnderWay}
use Rattle.workers.proofs.plain.do_all_jobs.Given as goal

abbrev pub invariant-loop-buffers : goal.invariant-loop-buffers
invariant-loop-buffers l = IsUnderWay (study_of l.study) l.book l.collector

abbrev pub decreases-loop-buffers : goal.decreases-loop-buffers
decreases-loop-buffers l = jobs_of (study_of l.study) - l.book.next
