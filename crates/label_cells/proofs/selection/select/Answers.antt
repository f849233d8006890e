use Rattle.std.proofs.Common.{◌≡◌, ◌≤◌, ◌+◌, ◌-◌, ◌*◌, ◌^◌, ℕ, Bool, cond, slice_index, ap, subst, ◌∙◌, arith}
use Rattle.std.proofs.Math.Nat.{pow-le-pow_right}
use Rattle.std.proofs.lemmas.Bool.{lt-ltb, le-ltb}
use Rattle.std.proofs.lemmas.Simd.{get_or-replicate}
use Rattle.label_cells.specs.Places.{IsLeft}
use Rattle.label_cells.proofs.PlacesInOneLane.{first_placed, between_here}
use Rattle.label_cells.proofs.selection.select.Goals as goal

few_power : (n : ℕ) → n ≤ 12 → 2 ^ n ≤ 4096
few_power n l = pow-le-pow_right {n = 2} (omega arith) {i = n} {j = 12} l

pub whole_of-places-requires-clause-first : goal.whole_of-places-requires-clause-first
whole_of-places-requires-clause-first c l h =
    first_placed c.args.rows.now l c.requires.small h c.args.rank (2 ^ c.args.summary.bits) c.requires.some
    (λ i less ne. let top = c.requires.summary.top l i h less ne in omega (arith, top))

pub past-left-requires-clause-order : goal.past-left-requires-clause-order
past-left-requires-clause-order c l h =
    let placed = c.whole_of-places.ensures l h in
    let low = placed.low in
    let rank = get_or-replicate {A = ℕ} 16 l c.args.rank 0 h in
    omega (arith, low, rank)

pub past-left-requires-clause-fits : goal.past-left-requires-clause-fits
past-left-requires-clause-fits c l h =
    let rank = get_or-replicate {A = ℕ} 16 l c.args.rank 0 h in
    let fits = c.ranges.rank.fits in
    omega (arith, fits, rank)

pub rest_of-rest-requires-clause-at : goal.rest_of-rest-requires-clause-at
rest_of-rest-requires-clause-at c l h =
    let placed = c.whole_of-places.ensures l h in
    let few = placed.few in
    let up = few_power c.args.summary.bits c.requires.summary.few in
    omega (arith, few, up)

pub rest_of-rest-requires-clause-some : goal.rest_of-rest-requires-clause-some
rest_of-rest-requires-clause-some c l h =
    let placed = c.whole_of-places.ensures l h in
    let low = placed.low in
    let rank = get_or-replicate {A = ℕ} 16 l c.args.rank 0 h in
    let left = c.past-left.ensures l h in
    omega (arith, low, rank, left)

pub sum_of-minutes-requires : goal.sum_of-minutes-requires
sum_of-minutes-requires c l h =
    let placed = c.whole_of-places.ensures l h in
    let few = placed.few in
    let up = few_power c.args.summary.bits c.requires.summary.few in
    let low = c.requires.summary.low l h in
    omega (arith, few, up, low)

pub cells_of-requires-clause-minutes : goal.cells_of-requires-clause-minutes
cells_of-requires-clause-minutes c l h =
    let placed = c.whole_of-places.ensures l h in
    let few = placed.few in
    let up = few_power c.args.summary.bits c.requires.summary.few in
    let low = c.requires.summary.low l h in
    let is = c.sum_of-minutes.ensures l h in
    omega (arith, few, up, low, is)

pub cells_of-requires-clause-rest : goal.cells_of-requires-clause-rest
cells_of-requires-clause-rest c l h =
    let left = c.rest_of-rest.ensures.left l h in
    let few = left.few in
    omega (arith, few)

pub returns-clause-selected : goal.returns-clause-selected
returns-clause-selected c l h =
    let rows = c.args.rows.now in
    let rank = c.args.rank in
    let low = slice_index c.args.summary.low l in
    let known = slice_index c.args.summary.known l in
    let is_known = c.requires.summary.known l h in
    let places = c.whole_of-places.result in
    let whole = slice_index places.whole l in
    let under = slice_index places.under l in
    let placed = c.whole_of-places.ensures l h in
    let ranks = get_or-replicate {A = ℕ} 16 l rank 0 h in
    let left : slice_index c.past-left.result l ≡ rank - under =
    c.past-left.ensures l h ∙ ap (λ (r : ℕ). r - under) ranks in
    let rest = slice_index c.rest_of-rest.result l in
    let is_left : IsLeft rows l whole (rank - under) rest 1 =
    subst (λ (x : ℕ). IsLeft rows l whole x rest 1) left (c.rest_of-rest.ensures.left l h) in
    let minutes = c.sum_of-minutes.ensures l h in
    let cell = c.cells_of.ensures l h in
    let few = placed.few in
    let up = few_power c.args.summary.bits c.requires.summary.few in
    let low_few = c.requires.summary.low l h in
    let some_cell = 60 * slice_index c.sum_of-minutes.result l + rest in
    record {
      none = λ fewer. cell ∙ ap (λ (b : Bool). cond b 4294967295 (60 * slice_index c.sum_of-minutes.result l + rest))
          (lt-ltb known rank (omega (arith, fewer, is_known)));
      some = λ enough.
          let is = cell ∙ ap (λ (b : Bool). cond b 4294967295 (60 * slice_index c.sum_of-minutes.result l + rest))
          (le-ltb known rank (omega (arith, enough, is_known))) in
          between_here rows l c.requires.small h low rank whole under rest (2 ^ c.args.summary.bits)
          (slice_index c.cells_of.result l) placed is_left (omega (arith, is, minutes))
          (omega (arith, few, up, low_few)) enough;
    }
