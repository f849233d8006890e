use Rattle.std.proofs.Common.{◌≡◌, ◌≢◌, ◌<◌, ◌+◌, ◌/◌, ℕ, List, Bool, true, length, slice_index, inl, inr, sym}
use Rattle.std.proofs.Common.{subst, ap, ◌∙◌, arith}
use Rattle.std.proofs.Math.ListN.{set}
use Rattle.std.proofs.lemmas.Bool.{cases_lt}
use Rattle.std.proofs.lemmas.List.{length-set}
use Rattle.label_cells.specs.Groups.{is_used}
use Rattle.label_cells.proofs.UsedGroups.{marked, still_used}
use Rattle.label_cells.proofs.used.mark_opportunities.Goals as goal
use Rattle.label_cells.proofs.used.mark_opportunities.Goals.{then-opportunities-p-gt0, else-opportunities-p-gt0}

-- the invariant
abbrev Preserved : List ℕ → List ℕ → List Bool → ℕ → List Bool → Type 0
Preserved numbers ns old n used = record {
  same : length used ≡ length old;
  marked : (p : ℕ) → p < n → slice_index ns p ≢ 0 → is_used used (slice_index numbers p);
  kept : (q : ℕ) → is_used old q → is_used used q;
}

pub loop-p-preserved : goal.loop-p-preserved
loop-p-preserved c =
    let was = c.loop-p.invariant in
    let numbers = c.args.numbers.now in
    let ns = c.args.opportunities.now in
    let n = c.loop-p.p in
    let old = c.loop-p.used in
    let within = c.requires.numbers n c.loop-p-test.true in
    let g : ℕ = slice_index numbers n / 16 in
    let there : g < length old = omega (arith, within, was.same) in
    elim c.if-opportunities-p-gt0.branch [
      | then-opportunities-p-gt0 w ↦ subst (λ (xs : List Bool). Preserved numbers ns c.args.used.now (n + 1) xs) (sym
          w.used-is) (record {
            same = length-set old g true ∙ was.same;
            marked = λ p l some. elim (cases_lt p n) [
              | inl lt ↦ still_used old g (slice_index numbers p) there (was.marked p lt some)
              | inr ge ↦
                  let e : n ≡ p = omega (arith, ge, l) in
                  subst (λ (i : ℕ). is_used (set old g true) (slice_index numbers i)) e (marked old (slice_index numbers
                  n) there)
            ];
            kept = λ q is. still_used old g q there (was.kept q is);
          })
      | else-opportunities-p-gt0 w ↦ subst (λ (xs : List Bool). Preserved numbers ns c.args.used.now (n + 1) xs) (sym
          w.used-is) (record {
            same = was.same;
            marked = λ p l some. elim (cases_lt p n) [
              | inl lt ↦ was.marked p lt some
              | inr ge ↦
                  let e : n ≡ p = omega (arith, ge, l) in
                  let none = w.if-opportunities-p-gt0.false in
                  let is : slice_index ns p ≡ slice_index ns n = ap (λ (i : ℕ). slice_index ns i) (sym e) in
                  absurd (some (omega (arith, none, is)))
            ];
            kept = was.kept;
          })
    ]
