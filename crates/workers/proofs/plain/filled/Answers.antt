use Rattle.workers.specs.Study.{study_of}
use Rattle.workers.proofs.NextJob.{opened}
use Rattle.workers.proofs.plain.filled.Goals as goal

pub do_all_jobs-requires-clause-way : goal.do_all_jobs-requires-clause-way
do_all_jobs-requires-clause-way c = rw (c.in_ok-book.ensures, c.in_ok-collector.ensures)
    (opened (study_of c.args.study.now))
