use Rattle.std.proofs.Common.{◌≡◌, ◌+◌, ◌*◌, ◌/◌, ◌-◌, ℕ, subst, arith}
use Rattle.shares.specs.Planes.{IsRanked}
use Rattle.shares.proofs.RankAmongMinutes.{rank_of}
use Rattle.shares.proofs.RankIsCell.{minutes_shown, cell_ranked, none_ranked}
use Rattle.shares.proofs.ranks.at_rank.Goals as goal

pub value_at-value-requires-clause-rank : goal.value_at-value-requires-clause-rank
value_at-value-requires-clause-rank c =
    let a = c.args in
    let r = c.requires in
    let place = (rank_of a.minutes a.share r.share c.if-rank-eq0.false).there in
    let shown = minutes_shown a.lanes.now a.minutes a.bits a.top c.told-lanes r.lanes r.few r.bits r.known r.top in
    omega (arith, place, shown)

pub returns-then-value-top : goal.returns-then-value-top
returns-then-value-top c =
    let a = c.args in
    let r = c.requires in
    let rank : ℕ = (a.share * a.minutes + 99) / 100 in
    let e : rank ≡ rank - 1 + 1 = (let some = c.if-rank-eq0.false in omega arith) in
    let ranked = subst (λ (k : ℕ). IsRanked a.lanes.now a.bits k c.value_at-value.result) e c.value_at-value.ensures in
    cell_ranked a.lanes.now a.minutes a.bits a.top c.told-lanes r.lanes r.few r.bits r.known r.top a.share (rank - 1)
    c.value_at-value.result
    (rank_of a.minutes a.share r.share c.if-rank-eq0.false) ranked c.if-value-top.true

pub returns-else-value-top : goal.returns-else-value-top
returns-else-value-top c =
    let a = c.args in
    let r = c.requires in
    let rank : ℕ = (a.share * a.minutes + 99) / 100 in
    let e : rank ≡ rank - 1 + 1 = (let some = c.if-rank-eq0.false in omega arith) in
    let ranked = subst (λ (k : ℕ). IsRanked a.lanes.now a.bits k c.value_at-value.result) e c.value_at-value.ensures in
    none_ranked a.lanes.now a.minutes a.bits a.top c.told-lanes r.lanes r.few r.bits r.known r.top a.share (rank - 1)
    c.value_at-value.result
    (rank_of a.minutes a.share r.share c.if-rank-eq0.false) ranked c.if-value-top.false
