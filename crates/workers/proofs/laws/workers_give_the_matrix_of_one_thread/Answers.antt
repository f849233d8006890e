use Rattle.workers.specs.Study.{study_of}
use Rattle.workers.proofs.RunEnds.{one_matrix}
use Rattle.workers.proofs.laws.workers_give_the_matrix_of_one_thread.Goals as goal

pub returns : goal.returns
returns g c = one_matrix (study_of c.args.study.now) _ _ c.one_thread-one.ensures.matrix
    c.run_workers-many.ensures.matrix
