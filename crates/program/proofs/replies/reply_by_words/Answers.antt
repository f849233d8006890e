use Rattle.std.proofs.Common.{inr}
use Rattle.std.proofs.lemmas.Result.{IfOk-weaker}
use Rattle.program.proofs.replies.reply_by_words.Goals as goal

pub returns-in-Ok-line_room : goal.returns-in-Ok-line_room
returns-in-Ok-line_room g c =
    IfOk-weaker c.reply_by_files.result _ _ (λ reply h. inr (c.in-Ok.task, c.in-Ok.ensures.asked, h))
    c.reply_by_files.ensures.answer
