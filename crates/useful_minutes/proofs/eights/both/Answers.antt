use Rattle.std.proofs.Common.{◌≡◌, ◌+◌, ◌++◌, ◌∙◌, List, ℕ, ap, sym, arith, length, slice_index}
use Rattle.std.proofs.lemmas.List.{get_or-append-add, length-append}
use Rattle.std.proofs.lemmas.Simd.{pick_l_whole}
use Rattle.useful_minutes.proofs.eights.both.Goals as goal

pub returns-clause-late : goal.returns-clause-late
returns-clause-late c l h =
    let early = c.args.early in
    let late = c.args.late in
    let size : length (early ++ late) ≡ 16 = omega (arith, length-append early late) in
    let here : length early + l ≡ 8 + l = omega arith in
    ap (λ (xs : List ℕ). slice_index xs (8 + l)) (pick_l_whole 0 (early ++ late) 16 size)
    ∙ (ap (λ (i : ℕ). slice_index (early ++ late) i) (sym here) ∙ get_or-append-add early late l 0)
