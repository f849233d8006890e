use Rattle.std.proofs.Common.{ℕ, leb, arith, replicate, refl, ◌∙◌}
use Rattle.std.proofs.lemmas.Simd.{get_or-replicate}
use Rattle.trip_lanes.proofs.VectorChoices.{sel_at}
use Rattle.trip_lanes.proofs.plain.board.Goals as goal
use mir.Syntax.{w32}

pub returns : goal.returns
returns c l h =
    sel_at w32 16 leb c.args.ready (replicate 16 c.args.depart) (replicate 16 0) c.args.bar l h (omega arith) refl refl
    (omega arith)
    ∙ rw (get_or-replicate {A = ℕ} 16 l c.args.depart 0 h, get_or-replicate {A = ℕ} 16 l 0 0 h) refl
