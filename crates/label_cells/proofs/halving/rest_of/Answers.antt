use Rattle.std.proofs.Common.{◌≡◌, ◌≤◌, ◌+◌, ◌-◌, ◌^◌, ℕ, slice_index, subst, sym, ◌∙◌, arith}
use Rattle.std.proofs.lemmas.Simd.{get_or-replicate}
use Rattle.label_cells.specs.Places.{IsLeft}
use Rattle.label_cells.specs.SplitRuns.{cover_at}
use Rattle.label_cells.proofs.PlacesInOneLane.{left_first, left_next, left_last}
use Rattle.label_cells.proofs.SplitRunsInOneLane.{fewer_covers}
use Rattle.label_cells.proofs.CellSelected.{few_up}
use Rattle.label_cells.proofs.halving.rest_of.Goals as goal

pub loop-k-init : goal.loop-k-init
loop-k-init c = record {
  left = λ l h.
      let first = left_first c.args.rows.now l c.requires.small h (slice_index c.args.at l) (slice_index c.args.left l)
      (c.requires.some l h) in
      subst (λ (z : ℕ). IsLeft c.args.rows.now l (slice_index c.args.at l) (slice_index c.args.left l) z 64)
      (sym (get_or-replicate {A = ℕ} 16 l 0 0 h)) first;
}

pub loop-k-preserved : goal.loop-k-preserved
loop-k-preserved c = record {
  left = λ l h.
      let rows = c.args.rows.now in
      let v = c.loop-k in
      let at = slice_index c.args.at l in
      let left = slice_index c.args.left l in
      let rest = slice_index v.rest l in
      let to = slice_index c.more_by-to.result l in
      let count = slice_index c.fewer-count.result l in
      let is = c.more_by-to.ensures l h in
      let old = v.invariant.left l h in
      let few : to ≤ 64 =
      (let f = few_up 6 v.k c.power.result c.loop-k-test.true c.power.ensures rest 64 old.few in
      omega (arith, f, is)) in
      let covers : count ≡ cover_at rows l at to = c.fewer-count.ensures l h
      ∙ fewer_covers rows c.args.at c.fill_covering.new.covering l to h few c.fill_covering.ensures in
      let next = left_next rows l c.requires.small h at left rest v.k c.power.result to count c.loop-k-test.true
      c.power.ensures is covers old in
      subst (λ (s : ℕ). IsLeft rows l at left s (2 ^ (6 - (v.k + 1)))) (sym (c.where_less-higher.ensures l h)) next;
}

pub returns-clause-left : goal.returns-clause-left
returns-clause-left c l h = left_last c.args.rows.now l c.requires.small h (slice_index c.args.at l)
    (slice_index c.args.left l) (slice_index c.loop-k.rest l) c.loop-k.k c.loop-k-test.false
    (c.loop-k.invariant.left l h)
