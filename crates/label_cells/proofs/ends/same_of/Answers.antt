use Rattle.std.proofs.Common.{ℕ, cond, eqb, get_or, replicate, refl, ap, ◌∙◌, arith}
use Rattle.std.proofs.lemmas.Simd.{get_or-replicate}
use Rattle.trip_lanes.proofs.VectorChoices.{sel_at}
use Rattle.label_cells.proofs.ends.same_of.Goals as goal
use mir.Syntax.{w16}

pub returns : goal.returns
returns c k h =
    let here = c.args.here in
    let next = c.args.next in
    let same = c.args.same in
    sel_at w16 8 eqb here next same (replicate 8 0) k h (omega arith) (omega arith) (omega arith) refl
    ∙ ap (λ (z : ℕ). cond (eqb (get_or here k 0) (get_or next k 0)) (get_or same k 0) z) (get_or-replicate {A = ℕ} 8
    k 0 0 h)
