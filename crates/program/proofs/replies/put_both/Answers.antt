use Rattle.std.proofs.lemmas.Result.{on_err_weaker}
use Rattle.program.proofs.TalkFacts.{part_after, part_before, part_begins}
use Rattle.program.proofs.replies.put_both.Goals as goal

pub returns-in-Ok-clause-err : goal.returns-in-Ok-clause-err
returns-in-Ok-clause-err g c =
    on_err_weaker c.put_last.result (λ part. part_after (g.O.Write.contents c.args.out.now)
    (g.O.Write.contents c.put_whole.new.w) (g.O.Write.contents c.put_last.new.out) c.args.first.now c.args.last.now
    c.in-Ok.ensures.ok part) c.put_last.ensures.err

pub returns-in-Err-clause-err : goal.returns-in-Err-clause-err
returns-in-Err-clause-err g c =
    part_before _ _ c.args.first.now c.args.last.now (part_begins _ _ c.args.first.now c.in-Err.ensures.cut)
