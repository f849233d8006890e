use Rattle.std.proofs.Common.{◌≡◌, ◌∙◌, ℕ, eqb, ltb, length, max, get_or, replicate, ap, refl, arith}
use Rattle.std.proofs.lemmas.Simd.{get_or-replicate}
use Rattle.timetable.specs.declared.least.TheConstants.{NEVER}
use Rattle.trip_lanes.proofs.VectorChoices.{chosen, sel_at, length-chosen, max_if}
use Rattle.shares.specs.Percentiles.{known_label}
use Rattle.shares.proofs.percentiles.higher_of.Goals as goal
use mir.Syntax.{w32}

pub returns : goal.returns
returns c l h =
    let high = c.args.high in
    let labels = c.args.labels in
    let long : length high ≡ 16 = omega arith in
    let too : length labels ≡ 16 = omega arith in
    let known = chosen w32 eqb labels (replicate 16 NEVER) (replicate 16 0) labels in
    let known_long : length known ≡ 16 = length-chosen w32 16 eqb labels (replicate 16 NEVER) (replicate 16 0) labels
    too refl refl too in
    let here : get_or known l 0 ≡ known_label (get_or labels l 0) =
    sel_at w32 16 eqb labels (replicate 16 NEVER) (replicate 16 0) labels l h too refl refl too
    ∙ rw (get_or-replicate {A = ℕ} 16 l NEVER 0 h, get_or-replicate {A = ℕ} 16 l 0 0 h) refl in
    sel_at w32 16 ltb high known known high l h long known_long known_long long
    ∙ (max_if (get_or high l 0) (get_or known l 0) ∙ ap (λ (x : ℕ). max (get_or high l 0) x) here)
