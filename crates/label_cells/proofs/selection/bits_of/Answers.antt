use Rattle.std.proofs.Common.{◌≡◌, ◌≤◌, ◌<◌, ◌^◌, ℕ, inl, inr, subst, arith}
use Rattle.std.proofs.Math.Nat.{pow-le-pow_right}
use Rattle.std.proofs.lemmas.Bool.{cases_lt}
use Rattle.std.proofs.lemmas.Nat.{leading_length}
use Rattle.label_cells.proofs.selection.bits_of.Goals as goal

few_bits : (n : ℕ) → 2 ^ n ≤ 5065 → n ≤ 12
few_bits n low = elim (cases_lt 12 n) [
  | inr g ↦ g
  | inl l ↦
      let up : 2 ^ 13 ≤ 2 ^ n = pow-le-pow_right {n = 2} (omega arith) {i = 13} {j = n} l in
      absurd (omega (arith, up, low))
]

pub returns-clause-below : goal.returns-clause-below
returns-clause-below c =
    let a = c.args.top in
    let l = leading_length 32 a (omega (arith, c.requires)) in
    subst (λ (n : ℕ). a < 2 ^ n) (let e : l.0 ≡ _ = omega (arith, l.1) in e) l.2

pub returns-clause-few : goal.returns-clause-few
returns-clause-few c =
    let a = c.args.top in
    let l = leading_length 32 a (omega (arith, c.requires)) in
    let few = few_bits l.0 (let up = l.3 in omega (arith, up, c.requires)) in
    omega (arith, few, l.1)
