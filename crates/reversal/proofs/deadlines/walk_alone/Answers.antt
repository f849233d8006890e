use Rattle.std.proofs.Common.{inl, inr, refl}
use Rattle.reversal.proofs.DeadlinesFound.{walk_found}
use Rattle.reversal.proofs.deadlines.walk_alone.Goals as goal

pub returns-in-Some : goal.returns-in-Some
returns-in-Some c =
    walk_found c.args.feet.now c.known.ensures c.args.a.0 c.args.b.0 c.in-Some.seconds c.if-a-b.false
    c.in-Some.ensures.some

pub returns-in-None : goal.returns-in-None
returns-in-None c =
    record {
      holds = λ some. absurd (some refl);
      least = λ m w. elim w [ inl z ↦ absurd (c.if-a-b.false z.0) | inr f ↦ absurd (c.in-None.ensures.none m f) ];
      none = λ never m w. elim w [ inl z ↦ c.if-a-b.false z.0 | inr f ↦ c.in-None.ensures.none m f ];
    }
