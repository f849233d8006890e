use Rattle.std.proofs.Common.{ap, ◌∙◌}
use Rattle.work_book.specs.Steps as book
use Rattle.collector.specs.Plain.{core, book_steps, merged}
use Rattle.collector.proofs.Merge.{merged_is, run_is, as_many}
use Rattle.collector.proofs.plain.run_core.Goals as goal

pub offer_all-requires-clause-told : goal.offer_all-requires-clause-told
offer_all-requires-clause-told c =
    let own = c.deref-2.ensures.value ∙ c.in-Ok.ensures ∙ ap book_steps c.deref.ensures.value in
    as_many c.in-Ok-run.of_book.items c.deref-2.result.now c.args.book.now c.args.steps.items
    c.in-Ok-run.ensures.answers own

pub returns-clause-answers : goal.returns-clause-answers
returns-clause-answers c =
    let own = c.deref-2.ensures.value ∙ c.in-Ok.ensures ∙ ap book_steps c.deref.ensures.value in
    let told = c.in-Ok-run.ensures.answers ∙ ap (book.answers_of c.args.book.now) own in
    c.offer_all.ensures.answers ∙ ap (merged c.args.collector.now c.args.steps.items) told
    ∙ merged_is c.args.steps.items c.args.book.now c.args.collector.now

pub returns-clause-ok : goal.returns-clause-ok
returns-clause-ok c =
    let own = c.deref-2.ensures.value ∙ c.in-Ok.ensures ∙ ap book_steps c.deref.ensures.value in
    let after = c.in-Ok-run.ensures.ok ∙ ap (book.run_of c.args.book.now) own in
    (λ i. core (after i) (c.offer_all.ensures.places i))
    ∙ run_is c.args.steps.items c.args.book.now c.args.collector.now
