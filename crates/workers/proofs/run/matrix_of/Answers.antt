use Rattle.std.proofs.Common.{◌∙◌, sym}
use Rattle.workers.proofs.OffersFill.{first_unkept}
use Rattle.workers.proofs.RunEnds.{not_not}
use Rattle.workers.proofs.run.matrix_of.Goals as goal

pub returns-in-Err-3-clause-fault : goal.returns-in-Err-3-clause-fault
returns-in-Err-3-clause-fault c = λ s v worked was once short started. (
  sym started ∙ not_not c.args.ends.started c.if-not-ends.false,
  sym short ∙ c.if-ends.false,
  first_unkept s v c.args.collector c.in-Err.field-0.scenario c.in-Err.field-0.origin was c.in-Err.ensures.empty.first
      once,
)
