use Rattle.std.proofs.Common.{◌<◌, inl, inr, slice_index, arith, sym, ◌∙◌}
use Rattle.std.proofs.lemmas.Bool.{cases_eq}
use Rattle.trip_lanes.proofs.forty_eight.FortyEightLaneLabels.span.Goals as goal

pub returns-clause-ends : goal.returns-clause-ends
returns-clause-ends c n each =
    let first = c.least-first in
    let last = c.greatest in
    -- the first rank is ridden, and so not the greatest label
    let some : first.result < n = each first.ensures.some.0 first.result first.ensures.some.1 (record {
      on = first.ensures.some.2;
      some = omega (arith, first.ensures.fits, c.if-first.false);
    }) in
    let found = last.ensures.some in
    elim (cases_eq (slice_index c.args.self found.0) 65535) [
      | inl far ↦ omega (arith, c.ridden.ensures.others found.0 found.1 far, found.2, some)
      | inr live ↦
          let on = sym (c.ridden.ensures.ranks found.0 found.1 live) ∙ found.2 in
          let low = each found.0 last.result found.1 (record {
            on = on;
            some = omega (arith, last.ensures.fits, live, on);
          }) in
          omega (arith, low)
    ]
