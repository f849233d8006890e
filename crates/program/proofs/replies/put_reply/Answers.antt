use Rattle.std.proofs.lemmas.Result.{on_err_weaker, on_ok_weaker}
use Rattle.program.proofs.ReplyFacts.{short_is_out}
use Rattle.program.specs.Talk.{short_reply}
use Rattle.program.proofs.replies.put_reply.Goals as goal

pub returns-in-Err-head-clause-ok : goal.returns-in-Err-head-clause-ok
returns-in-Err-head-clause-ok g c =
    on_ok_weaker c.put_both-in-Err-head.result (λ whole. (short_reply, short_is_out c.args.reply.now, whole))
    c.put_both-in-Err-head.ensures.ok

pub returns-in-Err-head-clause-err : goal.returns-in-Err-head-clause-err
returns-in-Err-head-clause-err g c =
    on_err_weaker c.put_both-in-Err-head.result (λ part. (short_reply, short_is_out c.args.reply.now, part))
    c.put_both-in-Err-head.ensures.err

pub returns-in-Err-clause-ok : goal.returns-in-Err-clause-ok
returns-in-Err-clause-ok g c =
    on_ok_weaker c.put_both-in-Err.result (λ whole. (short_reply, short_is_out c.args.reply.now, whole))
    c.put_both-in-Err.ensures.ok

pub returns-in-Err-clause-err : goal.returns-in-Err-clause-err
returns-in-Err-clause-err g c =
    on_err_weaker c.put_both-in-Err.result (λ part. (short_reply, short_is_out c.args.reply.now, part))
    c.put_both-in-Err.ensures.err
