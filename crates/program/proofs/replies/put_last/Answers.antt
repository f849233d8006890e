use Rattle.program.proofs.TalkFacts.{part_begins}
use Rattle.program.proofs.replies.put_last.Goals as goal

pub returns-in-Err-clause-err : goal.returns-in-Err-clause-err
returns-in-Err-clause-err g c = part_begins _ _ c.args.text.now c.in-Err.ensures.cut
