use Rattle.std.proofs.Common.{◌≡◌, ◌-◌, ◌∙◌, inl, inr, length, slice_index, ap, arith}
use Rattle.std.proofs.lemmas.List.{get_or_default}
use Rattle.to_here.proofs.RowSearched.{horizon_fits}
use Rattle.to_here.proofs.search.fits_horizon.Goals as goal

pub returns : goal.returns
returns c t =
    let times = c.in_ok-deadlines.deadlines.items in
    let last = c.index.result.now in
    let count : c.len-count.result ≡ length times = c.len-count.ensures ∙ c.in_ok-deadlines.deadlines.ok.0 in
    let at : last ≡ slice_index times (length times - 1) = c.index.ensures
    ∙ get_or_default times (c.len-count.result - 1) last 0 (omega (arith, count, c.if-count-eq0.false))
    ∙ ap (λ k. slice_index times (k - 1)) count in
    horizon_fits c.args.networks.horizon c.args.networks.network.now c.args.window c.args.destination.0 times
    (record { exact = c.in_ok-deadlines.ensures.exact; ascending = c.in_ok-deadlines.ensures.ascending })
    c.if-networks-window.false (inr (omega (arith, at, c.if-networks-index.false)))

pub returns-then-count-eq0 : goal.returns-then-count-eq0
returns-then-count-eq0 c t =
    let times = c.in_ok-deadlines.deadlines.items in
    let count : c.len-count.result ≡ length times = c.len-count.ensures ∙ c.in_ok-deadlines.deadlines.ok.0 in
    horizon_fits c.args.networks.horizon c.args.networks.network.now c.args.window c.args.destination.0 times
    (record { exact = c.in_ok-deadlines.ensures.exact; ascending = c.in_ok-deadlines.ensures.ascending })
    c.if-networks-window.false (inl (omega (arith, count, c.if-count-eq0.true)))
