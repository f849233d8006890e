use Rattle.std.proofs.Common.{◌≡◌, ◌≤◌, ◌<◌, ◌+◌, ◌-◌, ◌^◌, ℕ, cond, ltb, slice_index, ap, subst, sym, ◌∙◌, arith}
use Rattle.std.proofs.Math.Nat.{pow-le-pow_right}
use Rattle.std.proofs.lemmas.Nat.{pow_pos}
use Rattle.std.proofs.lemmas.Simd.{get_or-replicate}
use Rattle.label_cells.specs.Places.{IsPlaced}
use Rattle.label_cells.proofs.PlacesInOneLane.{placed_first, placed_next, placed_last}
use Rattle.label_cells.proofs.CellSelected.{few_up}
use Rattle.label_cells.proofs.halving.whole_of.Goals as goal

few_power : (n : ℕ) → n ≤ 12 → 2 ^ n ≤ 4096
few_power n l = pow-le-pow_right {n = 2} (omega arith) {i = n} {j = 12} l

pub loop-k-init : goal.loop-k-init
loop-k-init c = record {
  placed = λ l h.
      let rows = c.args.rows.now in
      let rank = c.args.rank in
      let end = 2 ^ c.args.bits in
      let first = placed_first rows l c.requires.small h rank (2 ^ c.args.bits) (c.requires.first l h) in
      let zero = sym (get_or-replicate {A = ℕ} 16 l 0 0 h) in
      subst (λ (z : ℕ). IsPlaced rows l rank z z (2 ^ (c.args.bits - 0)) (2 ^ c.args.bits)) zero
      (subst (λ (b : ℕ). IsPlaced rows l rank 0 0 (2 ^ b) (2 ^ c.args.bits))
      (let e : c.args.bits ≡ c.args.bits - 0 = omega arith in e) first);
}

pub below-count-requires-clause-to : goal.below-count-requires-clause-to
below-count-requires-clause-to c l h =
    let v = c.loop-k in
    let n = c.args.bits in
    let to = c.more_by-to.ensures l h in
    let up = few_power n c.requires.bits in
    let placed = v.invariant.placed l h in
    let few = few_up n v.k c.power.result c.loop-k-test.true c.power.ensures (slice_index v.whole l) (2 ^ n) placed.few
    in
    let some : 0 < 2 ^ (n - (v.k + 1)) = pow_pos (n - (v.k + 1)) in
    omega (arith, to, up, few, some)

pub loop-k-preserved : goal.loop-k-preserved
loop-k-preserved c = record {
  placed = λ l h.
      let rows = c.args.rows.now in
      let n = c.args.bits in
      let v = c.loop-k in
      let rank = c.args.rank in
      let ranks = get_or-replicate {A = ℕ} 16 l rank 0 h in
      let to = slice_index c.more_by-to.result l in
      let count = slice_index c.below-count.result l in
      let whole = slice_index v.whole l in
      let under = slice_index v.under l in
      let next = placed_next rows l c.requires.small h rank whole under n v.k c.power.result to count (2 ^ n)
      c.loop-k-test.true c.power.ensures (c.more_by-to.ensures l h) (c.below-count.ensures l h)
      (v.invariant.placed l h) in
      let higher : slice_index c.where_less-higher.result l ≡ cond (ltb count rank) to whole =
      c.where_less-higher.ensures l h ∙ ap (λ (r : ℕ). cond (ltb count r) to whole) ranks in
      let more : slice_index c.where_less-more.result l ≡ cond (ltb count rank) count under =
      c.where_less-more.ensures l h ∙ ap (λ (r : ℕ). cond (ltb count r) count under) ranks in
      subst (λ (w : ℕ). IsPlaced rows l rank w (slice_index c.where_less-more.result l) (2 ^ (n - (v.k + 1))) (2 ^ n))
      (sym higher)
      (subst (λ (u : ℕ). IsPlaced rows l rank (cond (ltb count rank) to whole) u (2 ^ (n - (v.k + 1))) (2 ^ n))
      (sym more) next);
}

pub returns : goal.returns
returns c l h = placed_last c.args.rows.now l c.requires.small h c.args.rank (slice_index c.loop-k.whole l)
    (slice_index c.loop-k.under l) c.args.bits c.loop-k.k (2 ^ c.args.bits) c.loop-k-test.false
    (c.loop-k.invariant.placed l h)
