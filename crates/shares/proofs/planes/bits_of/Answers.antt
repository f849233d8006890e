use Rattle.std.proofs.Common.{◌≡◌, ◌+◌, ◌^◌, ◌<◌, ℕ, subst, arith}
use Rattle.std.proofs.lemmas.Nat.{leading_length}
use Rattle.shares.proofs.planes.bits_of.Goals as goal

pub returns-clause-below : goal.returns-clause-below
returns-clause-below c =
    let a : ℕ = c.args.greatest + 1 in
    let l = leading_length 32 a (omega (arith, c.requires)) in
    subst (λ (n : ℕ). a < 2 ^ n) (let e : l.0 ≡ _ = omega (arith, l.1) in e) l.2
