use Rattle.std.proofs.Common.{ℕ, replicate, get_or, ap, ◌+◌, ◌∙◌, arith, refl}
use Rattle.std.proofs.lemmas.Simd.{get_or-replicate}
use Rattle.label_cells.proofs.LaneSums.{plus_at}
use Rattle.label_cells.proofs.split_runs.more_by.Goals as goal

pub returns : goal.returns
returns c l h =
    let step = c.args.step in
    let same = get_or-replicate {A = ℕ} 16 l step 0 h in
    let room = c.requires l h in
    plus_at 16 c.args.value (replicate 16 step) l h (omega arith) refl (omega (arith, same, room))
    ∙ ap (λ (k : ℕ). get_or c.args.value l 0 + k) same
