use Rattle.std.proofs.Common.{arith}
use Rattle.program.proofs.ReplyFacts.{tells_all, words_step}
use Rattle.program.proofs.blocks.words_among.Goals as goal

pub returns-in-Err-clause-fault : goal.returns-in-Err-clause-fault
returns-in-Err-clause-fault c =
    tells_all c.in-Err.fault c.args.lines.now c.loop-line.line-index _ (omega arith) c.in-Err.ensures.fault

pub loop-line-preserved : goal.loop-line-preserved
loop-line-preserved c =
    words_step c.args.lines.now c.loop-line.line-index _ _ _ (omega arith) c.loop-line.invariant c.in-Ok.ensures.words
