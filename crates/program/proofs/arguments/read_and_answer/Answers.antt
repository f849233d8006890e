use Rattle.std.proofs.Common.{inl, inr, refl}
use Rattle.program.specs.Files.{asks_of}
use Rattle.program.proofs.FirstUnread.{told}
use Rattle.program.proofs.arguments.read_and_answer.Goals as goal

pub returns-in-Ok-clause-success : goal.returns-in-Ok-clause-success
returns-in-Ok-clause-success g c = λ z.
    record { files = _; named = c.in-Ok.ensures.files; whole = c.answer_files.ensures.success z }

pub returns-in-Ok-clause-ended : goal.returns-in-Ok-clause-ended
returns-in-Ok-clause-ended g c = inr (_, c.in-Ok.ensures.files, c.answer_files.ensures.ended)

pub returns-after-task-clause-ended : goal.returns-after-task-clause-ended
returns-after-task-clause-ended g c =
    inl (
      refl,
      told (g.H.Disk.finds c.args.host.now) (asks_of c.args.task.now) c.in-Err.unread _ _ _
          c.in-Err.ensures.unread c.tell-code.ensures,
    )
