use Rattle.std.proofs.Common.{◌≡◌, ◌+◌, ◌-◌, ℕ, get_or, take, drop, ap, ◌∙◌, arith}
use Rattle.std.proofs.lemmas.List.{get_or-take, get_or-drop}
use Rattle.std.proofs.lemmas.Simd.{get_or-chunk}
use Rattle.label_cells.proofs.ends.eight_of.Goals as goal

pub returns : goal.returns
returns c k h =
    let found = c.args.found.now in
    let at = c.args.at in
    get_or-chunk {X = ℕ} 0 8 (take (at + 8 - at) (drop at found)) k 0 h
    ∙ (get_or-take (at + 8 - at) (drop at found) (0 + k) 0 (omega arith)
    ∙ (get_or-drop at found (0 + k) 0 ∙ ap (λ (i : ℕ). get_or found i 0) (let e : at + (0 + k) ≡ at + k = omega arith
    in e)))
