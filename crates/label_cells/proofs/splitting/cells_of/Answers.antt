use Rattle.std.proofs.Common.{◌≡◌, ◌<◌, ◌+◌, ◌*◌, ◌%◌, ℕ, List, cond, ltb, get_or, length, replicate, refl, sym, ap}
use Rattle.std.proofs.Common.{◌∙◌, arith}
use Rattle.std.proofs.lemmas.List.{map-id}
use Rattle.std.proofs.lemmas.Simd.{get_or-replicate, get_or-zip2, length-zip2}
use Rattle.trip_lanes.proofs.VectorChoices.{chosen, sel_at}
use Rattle.label_cells.proofs.splitting.cells_of.Goals as goal
use lib.Lanes.{zip2}
use mir.Syntax.{w32}

abbrev plus : ℕ → ℕ → ℕ
plus a b = (a + b) % 4294967296

abbrev times : ℕ → ℕ → ℕ
times a b = (a * b) % 4294967296

fits : (a b : ℕ) → a < 65536 → b < 65536 → plus (times a 60) b ≡ 60 * a + b
fits a b x y = omega arith

lane : (known minutes rest : List ℕ) (rank l : ℕ) → l < 16 → length known ≡ 16 → length minutes ≡ 16 →
    length rest ≡ 16 → get_or minutes l 0 < 65536 → get_or rest l 0 < 65536 →
    get_or (chosen w32 ltb known (replicate 16 rank) (replicate 16 4294967295)
    (zip2 plus (zip2 times minutes (replicate 16 60)) rest)) l 0
    ≡ cond (ltb (get_or known l 0) rank) 4294967295 (60 * get_or minutes l 0 + get_or rest l 0)
lane known minutes rest rank l h kl ml rl mf rf =
    let sixty = get_or-replicate {A = ℕ} 16 l 60 0 h in
    let product = zip2 times minutes (replicate 16 60) in
    let pl : length (zip2 times minutes (replicate 16 60)) ≡ 16 = length-zip2 times minutes (replicate 16 60) ml ∙ ml in
    let sl : length (zip2 plus (zip2 times minutes (replicate 16 60)) rest) ≡ 16 =
    length-zip2 plus (zip2 times minutes (replicate 16 60)) rest (pl ∙ sym rl) ∙ pl in
    let mul : get_or (zip2 times minutes (replicate 16 60)) l 0 ≡ times (get_or minutes l 0) 60 =
    get_or-zip2 times minutes (replicate 16 60) l 0 0 0 (omega (arith, ml)) (omega arith)
    ∙ ap (λ (k : ℕ). times (get_or minutes l 0) k) sixty in
    let sum : get_or (zip2 plus (zip2 times minutes (replicate 16 60)) rest) l 0
    ≡ 60 * get_or minutes l 0 + get_or rest l 0 =
    get_or-zip2 plus (zip2 times minutes (replicate 16 60)) rest l 0 0 0 (omega (arith, pl)) (omega (arith, rl))
    ∙ (ap (λ (k : ℕ). plus k (get_or rest l 0)) mul ∙ fits (get_or minutes l 0) (get_or rest l 0) mf rf) in
    let none = get_or-replicate {A = ℕ} 16 l 4294967295 0 h in
    let ranks = get_or-replicate {A = ℕ} 16 l rank 0 h in
    sel_at w32 16 ltb known (replicate 16 rank) (replicate 16 4294967295)
    (zip2 plus (zip2 times minutes (replicate 16 60)) rest) l h kl refl refl sl
    ∙ (λ i. cond (ltb (get_or known l 0) (ranks i)) (none i) (sum i))

pub returns : goal.returns
returns c l h =
    let known = c.args.known in
    let minutes = c.args.minutes in
    let rest = c.args.rest in
    let rank = c.args.rank in
    (λ i. get_or (chosen w32 ltb (map-id known i) (replicate 16 rank) (replicate 16 4294967295)
    (zip2 plus (zip2 times (map-id minutes i) (replicate 16 60)) (map-id rest i))) l 0)
    ∙ lane known minutes rest rank l h (omega arith) (omega arith) (omega arith) (c.requires.minutes l h)
    (c.requires.rest l h)
