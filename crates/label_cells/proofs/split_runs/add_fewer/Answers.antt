use Rattle.std.proofs.Common.{◌≡◌, ◌≤◌, ◌∙◌, ◌+◌, ℕ, Bool, true, false, cond, ltb, length, get_or, replicate, ap}
use Rattle.std.proofs.Common.{refl, arith}
use Rattle.std.proofs.lemmas.Simd.{get_or-replicate}
use Rattle.trip_lanes.proofs.VectorChoices.{chosen, sel_at, length-chosen}
use Rattle.label_cells.proofs.LaneSums.{plus_at}
use Rattle.label_cells.proofs.split_runs.add_fewer.Goals as goal
use mir.Syntax.{w16}

one_most : (b : Bool) → cond b 1 0 ≤ 1
one_most true = omega arith
one_most false = omega arith

pub returns : goal.returns
returns c l h =
    let count = c.args.count in
    let here = c.args.here in
    let seconds = c.args.seconds in
    let cl : length count ≡ 16 = omega arith in
    let hl : length here ≡ 16 = omega arith in
    let sl : length seconds ≡ 16 = omega arith in
    let one = chosen w16 ltb here seconds (replicate 16 1) (replicate 16 0) in
    let long = length-chosen w16 16 ltb here seconds (replicate 16 1) (replicate 16 0) hl sl refl refl in
    let y = get_or-replicate {A = ℕ} 16 l 1 0 h in
    let z = get_or-replicate {A = ℕ} 16 l 0 0 h in
    let lane : get_or one l 0 ≡ cond (ltb (get_or here l 0) (get_or seconds l 0)) 1 0 =
    sel_at w16 16 ltb here seconds (replicate 16 1) (replicate 16 0) l h hl sl refl refl
    ∙ (λ i. cond (ltb (get_or here l 0) (get_or seconds l 0)) (y i) (z i)) in
    let most = one_most (ltb (get_or here l 0) (get_or seconds l 0)) in
    let room = c.requires l h in
    plus_at 16 count one l h cl long (omega (arith, lane, most, room)) ∙ ap (λ (k : ℕ). get_or count l 0 + k) lane
