use Rattle.std.proofs.Common.{◌≡◌, ℕ, cond, eqb, get_or, length, replicate, refl, ◌∙◌, arith}
use Rattle.std.proofs.lemmas.Simd.{get_or-replicate, length-zip2}
use Rattle.trip_lanes.proofs.VectorChoices.{sel_at}
use Rattle.label_cells.proofs.LaneSums.{plus, plus_at}
use Rattle.label_cells.proofs.split_runs.end_of.Goals as goal
use lib.Lanes.{zip2}
use mir.Syntax.{w16}

pub returns : goal.returns
returns c l h =
    let whole = c.args.whole in
    let span = c.args.span in
    let wl : length whole ≡ 16 = omega arith in
    let sl : length span ≡ 16 = omega arith in
    let long : length (zip2 plus whole span) ≡ 16 = length-zip2 plus whole span (omega (arith, wl, sl)) ∙ wl in
    let zero = get_or-replicate {A = ℕ} 16 l 0 0 h in
    let sum = plus_at 16 whole span l h wl sl (c.requires l h) in
    sel_at w16 16 eqb span (replicate 16 0) (replicate 16 0) (zip2 plus whole span) l h sl refl refl long
    ∙ (λ i. cond (eqb (get_or span l 0) (zero i)) (zero i) (sum i))
