use Rattle.std.proofs.Common.{◌≡◌, ◌∙◌, ℕ, cond, ltb, length, get_or, replicate, ap, refl, arith}
use Rattle.std.proofs.lemmas.Simd.{get_or-replicate, length-zip2}
use Rattle.trip_lanes.proofs.VectorChoices.{sel_at}
use Rattle.label_cells.proofs.LaneSums.{minus, minus_at, covers_wrapped}
use Rattle.label_cells.proofs.split_runs.covering_of.Goals as goal
use lib.Lanes.{zip2}
use mir.Syntax.{w16}

pub returns : goal.returns
returns c l seconds h less =
    let at = c.args.at in
    let whole = c.args.whole in
    let rest = c.args.rest in
    let span = c.args.span in
    let al : length at ≡ 16 = omega arith in
    let wl : length whole ≡ 16 = omega arith in
    let rl : length rest ≡ 16 = omega arith in
    let sl : length span ≡ 16 = omega arith in
    let past = zip2 minus at whole in
    let long : length past ≡ 16 = length-zip2 minus at whole (omega (arith, al, wl)) ∙ al in
    let lane = sel_at w16 16 ltb past span rest (replicate 16 127) l h long sl rl refl in
    let here = minus_at 16 at whole l h al wl in
    let far = get_or-replicate {A = ℕ} 16 l 127 0 h in
    ap (λ (x : ℕ). ltb x seconds) (lane ∙ (λ i. cond (ltb (here i) (get_or span l 0)) (get_or rest l 0) (far i)))
    ∙ covers_wrapped (get_or at l 0) seconds (get_or whole l 0) (get_or rest l 0) (get_or span l 0)
    (c.requires.at l h) (c.requires.whole l h) (c.requires.span l h) less
