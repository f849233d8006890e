use Rattle.workers.specs.Study.{study_of}
use Rattle.workers.proofs.FoundRows.{row_is}
use Rattle.workers.proofs.rows.row_with.Goals as goal

pub returns : goal.returns
returns c =
    row_is (study_of c.args.study.now) c.args.scenario c.args.origin c.in_ok-shares.shares.items c.in_ok-shares.ensures
