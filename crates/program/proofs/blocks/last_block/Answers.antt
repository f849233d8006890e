use Rattle.std.proofs.Common.{◌∙◌, refl, sym}
use Rattle.program.proofs.ReplyFacts.{nil_from, some_from}
use Rattle.program.proofs.blocks.last_block.Goals as goal

pub returns-then-is_nothing : goal.returns-then-is_nothing
returns-then-is_nothing c = λ read h. nil_from read (sym (c.is_nothing.ensures read h) ∙ c.if-is_nothing.true)

pub returns : goal.returns
returns c = λ read h.
    (some_from read (sym (c.is_nothing.ensures read h) ∙ c.if-is_nothing.false), refl, c.words_of.ensures read h)
