use Rattle.std.proofs.Common.{◌++◌, ◌∷◌, [], ℕ, List, map, take, sym, ap, ◌∙◌, arith}
use Rattle.std.proofs.lemmas.List.{take_all}
use Rattle.shares.specs.Opportunities.{access_of}
use Rattle.workers.proofs.Shares.{mapped_next}
use Rattle.workers.proofs.rows.sums_of.Goals as goal

pub loop-limit-preserved : goal.loop-limit-preserved
loop-limit-preserved c = λ all are.
    let ns = c.args.opportunities.now in
    let limits = c.args.limits.now in
    let k = c.loop-limit.limit-index in
    let one = c.access_at.ensures all are in
    c.in_ok-push.ensures.items
    ∙ ap (λ (xs : List ℕ). xs ++ c.access_at.result ∷ []) (c.loop-limit.invariant all are)
    ∙ ap (λ (x : ℕ). map (λ limit. access_of all ns limit) (take k limits) ++ x ∷ []) one
    ∙ sym (mapped_next (λ limit. access_of all ns limit) limits k c.loop-limit-test.true)

pub returns : goal.returns
returns c = λ all are.
    c.loop-limit.invariant all are
    ∙ ap (λ (l : List ℕ). map (λ limit. access_of all c.args.opportunities.now limit) l)
    (take_all c.loop-limit.limit-index c.args.limits.now (omega (arith, c.loop-limit-test.false)))
