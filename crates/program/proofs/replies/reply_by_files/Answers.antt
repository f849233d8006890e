use Rattle.std.proofs.Common.{inr, subst, sym}
use Rattle.std.proofs.lemmas.Result.{IfOk-weaker}
use Rattle.studies.specs.Answers.{asked_files}
use Rattle.studies.specs.Inputs.{inputs_of}
use Rattle.program.proofs.ReplyFacts.{are_files, at_each_err}
use Rattle.program.proofs.Rooms.{of_unread}
use Rattle.program.specs.Talk.{AreFilesOf, IsStudyAnswer, question_asks}
use Rattle.program.proofs.replies.reply_by_files.Goals as goal

pub returns-in-Ok-clause-answer : goal.returns-in-Ok-clause-answer
returns-in-Ok-clause-answer g c =
    let finds = g.H.Disk.finds c.args.host.now in
    let kept = inputs_of c.args.kept.now.inputs in
    let files = asked_files kept c.question.result in
    let named : AreFilesOf finds c.args.task.now kept files = subst (λ f. AreFilesOf finds c.args.task.now kept f)
    (sym c.question.ensures.files) (are_files finds c.args.task.now kept c.in-Ok.files c.in-Ok.ensures.files) in
    IfOk-weaker c.reply_by_study.result _ _
    (λ reply h. inr (
      files,
      named,
      subst (λ s. IsStudyAnswer files s reply.status reply.text.items)
          c.question.ensures.settings h,
    )) c.reply_by_study.ensures

pub returns-in-Ok-clause-memory : goal.returns-in-Ok-clause-memory
returns-in-Ok-clause-memory g c =
    let finds = g.H.Disk.finds c.args.host.now in
    let kept = inputs_of c.args.kept.now.inputs in
    at_each_err c.reply_by_study.result (_, are_files finds c.args.task.now kept c.in-Ok.files c.in-Ok.ensures.files)

pub unread_reply-requires-clause-room : goal.unread_reply-requires-clause-room
unread_reply-requires-clause-room g c =
    of_unread (g.H.Disk.finds c.args.host.now) (question_asks c.args.task.now) c.in-Err.unread _ c.requires.room
    c.in-Err.ensures.unread
