use Rattle.std.proofs.Common.{◌∙◌, Ok, ap, inr, map, string_bytes, subst}
use Rattle.std.proofs.lemmas.Result.{IfOk-weaker}
use Rattle.studies.specs.Inputs.{inputs_of}
use Rattle.program.specs.Blocks.{IsReadOf}
use Rattle.program.specs.Talk.{IsWordsAnswer}
use Rattle.program.proofs.replies.reply_to.Goals as goal

pub returns-in-Ok : goal.returns-in-Ok
returns-in-Ok g c = λ block read.
    let r : IsReadOf block (Ok c.in-Ok.words) = subst (λ w. IsReadOf block w) c.in-Ok.is read in
    IfOk-weaker c.reply_by_words.result _ _
    (λ reply h. inr (
      r.0,
      subst (λ ws. IsWordsAnswer (g.H.Disk.finds c.args.host.now) (inputs_of c.args.kept.now.inputs)
          c.args.kept.now.settings.now ws reply.status reply.text.items)
          (ap (map string_bytes) c.deref.ensures.value ∙ r.1) h,
    )) c.reply_by_words.ensures
