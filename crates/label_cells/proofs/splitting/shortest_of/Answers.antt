use Rattle.std.proofs.Common.{◌≡◌, ◌≤◌, ◌<◌, ℕ, Bool, true, false, List, cond, eqb, get_or, length, replicate, refl}
use Rattle.std.proofs.Common.{ap, ◌∙◌, arith}
use Rattle.std.proofs.lemmas.Bool.{eq-eqb, ne_eqb}
use Rattle.std.proofs.lemmas.Simd.{get_or-replicate, length-zip2}
use Rattle.trip_lanes.proofs.VectorChoices.{chosen, sel_at}
use Rattle.label_cells.proofs.LaneSums.{minus, minus_at, minus_is}
use Rattle.label_cells.proofs.splitting.shortest_of.Goals as goal
use lib.Lanes.{zip2}
use mir.Syntax.{w16}

lane : (xs : List ℕ) (more l : ℕ) → l < 16 → length xs ≡ 16 →
    get_or (chosen w16 eqb xs (replicate 16 65535) xs (zip2 minus xs (replicate 16 more))) l 0
    ≡ cond (eqb (get_or xs l 0) 65535) (get_or xs l 0) (minus (get_or xs l 0) more)
lane xs more l h xl =
    let long : length (zip2 minus xs (replicate 16 more)) ≡ 16 = length-zip2 minus xs (replicate 16 more) xl ∙ xl in
    let never = get_or-replicate {A = ℕ} 16 l 65535 0 h in
    let less = minus_at 16 xs (replicate 16 more) l h xl refl
    ∙ ap (λ (k : ℕ). minus (get_or xs l 0) k) (get_or-replicate {A = ℕ} 16 l more 0 h) in
    sel_at w16 16 eqb xs (replicate 16 65535) xs (zip2 minus xs (replicate 16 more)) l h xl refl xl long
    ∙ (λ i. cond (eqb (get_or xs l 0) (never i)) (get_or xs l 0) (less i))

pub returns-clause-never : goal.returns-clause-never
returns-clause-never c l h is =
    let x = get_or c.args.labels l 0 in
    lane c.args.labels c.args.more l h (omega arith)
    ∙ (ap (λ (b : Bool). cond b x (minus x c.args.more)) (eq-eqb x 65535 is) ∙ is)

pub returns-clause-counted : goal.returns-clause-counted
returns-clause-counted c l h some order =
    let x = get_or c.args.labels l 0 in
    let fits = c.requires l h in
    let less = minus_is x c.args.more order (omega (arith, fits)) in
    let here = lane c.args.labels c.args.more l h (omega arith)
    ∙ ap (λ (b : Bool). cond b x (minus x c.args.more)) (ne_eqb x 65535 some) in
    omega (arith, here, less, order)

most : (b : Bool) (x more : ℕ) → x ≤ 65535 → cond b x (minus x more) ≤ 65535
most true x more fits = fits
most false x more fits = omega arith

pub returns-clause-fits : goal.returns-clause-fits
returns-clause-fits c l h =
    let x = get_or c.args.labels l 0 in
    let here = lane c.args.labels c.args.more l h (omega arith) in
    let few = most (eqb x 65535) x c.args.more (c.requires l h) in
    omega (arith, here, few)
