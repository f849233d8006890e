use Rattle.std.proofs.Common.{Global, List, Ok, String, inl, map, string_bytes, subst, sym, ◌≡◌, ◌∙◌}
use Rattle.std.specs.Vec.Iter.{into_iter_items}
use Rattle.program.proofs.arguments.run.Goals as goal

pub returns-in-Ok-collected-clause-ended : goal.returns-in-Ok-collected-clause-ended
returns-in-Ok-collected-clause-ended g c =
    let words = c.deref.result.now in
    let same : words ≡ into_iter_items c.in-Ok.given = c.deref.ensures.value ∙ c.in-Ok-collected.ensures in
    inl (
      map string_bytes words,
      subst (λ (l : List (String Global)). g.H.Arguments.gives c.args.host.now (Ok (map string_bytes l))) (sym same)
          c.in-Ok.ensures,
      inl c.run_words.ensures.ended,
    )
