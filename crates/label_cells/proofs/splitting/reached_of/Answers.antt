use Rattle.std.proofs.Common.{ℕ, cond, eqb, get_or, replicate, refl, ◌∙◌, arith}
use Rattle.std.proofs.lemmas.Simd.{get_or-replicate}
use Rattle.trip_lanes.proofs.VectorChoices.{sel_at}
use Rattle.label_cells.proofs.splitting.reached_of.Goals as goal
use mir.Syntax.{w16}

pub returns : goal.returns
returns c l h =
    let shortest = c.args.shortest in
    let never = get_or-replicate {A = ℕ} 16 l 65535 0 h in
    let none = get_or-replicate {A = ℕ} 16 l 0 0 h in
    let span = get_or-replicate {A = ℕ} 16 l c.args.span 0 h in
    sel_at w16 16 eqb shortest (replicate 16 65535) (replicate 16 0) (replicate 16 c.args.span) l h (omega arith)
    refl refl refl
    ∙ (λ i. cond (eqb (get_or shortest l 0) (never i)) (none i) (span i))
