use Rattle.std.proofs.Common.{◌<◌, ◌∙◌, None, get_or, length, arith, ap, take, List, ℕ, Option}
use Rattle.std.proofs.lemmas.List.{take_all}
use Rattle.shares.specs.Opportunities.{access_of}
use Rattle.shares.proofs.AccessByStops.{access_next}
use Rattle.shares.proofs.opportunities.access_at.Goals as goal

pub loop-i-preserved : goal.loop-i-preserved
loop-i-preserved c = record {
  sum = λ cells are.
      let i = c.loop-i.i in
      let there : i < length cells = omega (arith, are.stops, c.requires.same, c.loop-i-test.true) in
      let more = access_next cells c.args.opportunities.now c.args.within i there (are.stops ∙ c.requires.same) in
      let so_far = c.loop-i.invariant.sum cells are in
      let one = c.count_at-sum.ensures.value (get_or cells i None)
      (are.each i (omega (arith, c.requires.same, c.loop-i-test.true))) in
      omega (arith, more, so_far, one);
  bound = omega (arith, c.loop-i.invariant.bound, c.count_at-sum.ensures.bound);
}

pub returns : goal.returns
returns c = λ cells are.
    let i = c.loop-i.i in
    let ns = c.args.opportunities.now in
    c.loop-i.invariant.sum cells are
    ∙ ap (λ (xs : List (Option ℕ)). access_of xs (take i ns) c.args.within)
    (take_all i cells (omega (arith, are.stops, c.requires.same, c.loop-i-test.false)))
    ∙ ap (λ (xs : List ℕ). access_of cells xs c.args.within) (take_all i ns (omega (arith, c.loop-i-test.false)))
