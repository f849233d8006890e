use Rattle.workers.specs.Study.{study_of}
use Rattle.workers.proofs.FullPlaces.{none_empty, matrix_of, shape_of}
use Rattle.workers.proofs.plain.finished.Goals as goal

pub unreachable-requires : goal.unreachable-requires
unreachable-requires c =
    none_empty (study_of c.args.study.now) _ _ _ c.requires.filled c.in-Err.ensures.empty.first

pub returns-clause-matrix : goal.returns-clause-matrix
returns-clause-matrix c = matrix_of (study_of c.args.study.now) _ _ c.requires.filled c.in-Ok.ensures.full

pub returns-clause-shape : goal.returns-clause-shape
returns-clause-shape c = shape_of (study_of c.args.study.now) _ _ c.requires.fits c.requires.filled c.in-Ok.ensures.full
