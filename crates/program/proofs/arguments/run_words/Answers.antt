use Rattle.std.proofs.Common.{inl, arith, string_bytes}
use Rattle.std.proofs.lemmas.List.{length-map}
use Rattle.program.proofs.arguments.run_words.Goals as goal

pub returns-then-words-le1-clause-success : goal.returns-then-words-le1-clause-success
returns-then-words-le1-clause-success g c =
    let words = length-map c.args.words.now string_bytes in
    let few = c.if-words-le1.true in
    λ z. inl (omega (arith, words, few), c.example.ensures.success z)

pub returns-then-words-le1-clause-ended : goal.returns-then-words-le1-clause-ended
returns-then-words-le1-clause-ended g c =
    let words = length-map c.args.words.now string_bytes in
    let few = c.if-words-le1.true in
    inl (omega (arith, words, few), c.example.ensures.ended)
