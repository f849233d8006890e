use Rattle.std.proofs.Common.{◌≡◌, ◌+◌, ◌%◌, ◌^◌, ◌<◌, ℕ, eqb, cond, length, get_or, replicate, arith, refl, sym, ◌∙◌, List}
use Rattle.std.proofs.Common.{Bool}
use Rattle.std.proofs.lemmas.Bool.{eq-eqb}
use Rattle.std.specs.Prelude.{not}
use Rattle.std.proofs.lemmas.Bool.Decides.{nat_tests}
use Rattle.std.proofs.lemmas.Simd.{get_or-replicate, get_or-zip2, length-zip2}
use Rattle.timetable.specs.declared.least.TheConstants.{NEVER}
use Rattle.trip_lanes.proofs.VectorChoices.{chosen, each_holds, sel_at, tops_of}
use Rattle.useful_minutes.proofs.counted.with_more.Goals as goal
use lib.Lanes.{mask_l, zip2}
use mir.Syntax.{w32}

-- one lane of the choice
choice : (times more : List ℕ) (l : ℕ) → l < 16 → length times ≡ 16 → length more ≡ 16
    → get_or (chosen w32 eqb times (replicate 16 65535) (replicate 16 NEVER)
    (zip2 (λ a b. (a + b) % 2 ^ 32) times more)) l 0
    ≡ cond (eqb (get_or times l 0) 65535) NEVER ((get_or times l 0 + get_or more l 0) % 2 ^ 32)
choice times more l lt times_len more_len =
    let sums : ℕ → ℕ → ℕ = λ a b. (a + b) % 2 ^ 32 in
    let sums_len : length (zip2 sums times more) ≡ 16 = length-zip2 sums times more (times_len ∙ sym more_len)
    ∙ times_len in
    sel_at w32 16 eqb times (replicate 16 65535) (replicate 16 NEVER) (zip2 sums times more) l lt times_len refl refl
    sums_len
    ∙ rw (
      get_or-replicate {A = ℕ} 16 l 65535 0 lt,
      get_or-replicate {A = ℕ} 16 l NEVER 0 lt,
      get_or-zip2 sums times more l 0 0 0 (omega (arith, lt, times_len)) (omega (arith, lt, more_len)),
    ) refl

pub returns-then-times-never-eq65535-clause-never : goal.returns-then-times-never-eq65535-clause-never
returns-then-times-never-eq65535-clause-never c l lt e =
    let differs : ℕ → ℕ → Bool = λ a b. not (eqb a b) in
    let other = each_holds w32 16 (omega arith) differs c.args.labels (replicate 16 65535) l lt (omega arith) refl
    (eq-eqb (mask_l (tops_of w32 differs c.args.labels (replicate 16 65535)) % 2 ^ 64) 65535
    c.if-times-never-eq65535.true) in
    let same : get_or (replicate 16 65535) l 0 ≡ 65535 = get_or-replicate {A = ℕ} 16 l 65535 0 lt in
    absurd (grind (arith, nat_tests, other, same, e))

pub returns-clause-never : goal.returns-clause-never
returns-clause-never c l lt e =
    let times = c.args.labels in
    let here = choice times c.args.more l lt (omega arith) (omega arith) in
    here ∙ rw e refl

pub returns-clause-sum : goal.returns-clause-sum
returns-clause-sum c l lt other =
    let times = c.args.labels in
    let here = choice times c.args.more l lt (omega arith) (omega arith) in
    here ∙ grind (arith, nat_tests)
