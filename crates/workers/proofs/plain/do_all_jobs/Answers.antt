use Rattle.workers.specs.Study.{study_of}
use Rattle.workers.proofs.NextJob.{done, all_done}
use Rattle.workers.proofs.plain.do_all_jobs.Goals as goal

pub loop-buffers-preserved : goal.loop-buffers-preserved
loop-buffers-preserved c =
    done (study_of c.args.study.now) _ _ _ _ c.requires.fits c.loop-buffers.invariant
    (c.in_ok-do_next_job.ensures.done c.if-branch.true)

pub returns : goal.returns
returns c =
    all_done (study_of c.args.study.now) _ _ _ _ c.loop-buffers.invariant
    (c.in_ok-do_next_job.ensures.none c.if-branch.false)
