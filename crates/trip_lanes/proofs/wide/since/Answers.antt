use Rattle.std.proofs.Common.{◌≡◌, ◌+◌, ◌-◌, ◌%◌, ◌^◌, ◌<◌, ℕ, eqb, length, get_or, replicate, arith, refl, sym, ◌∙◌}
use Rattle.std.proofs.lemmas.Simd.{get_or-replicate, get_or-zip2, length-zip2}
use Rattle.timetable.specs.declared.least.TheConstants.{NEVER}
use Rattle.trip_lanes.proofs.ChoicesInOneLane.{since_of}
use Rattle.trip_lanes.proofs.VectorChoices.{sel_at}
use Rattle.trip_lanes.proofs.wide.since.Goals as goal
use lib.Lanes.{zip2}
use mir.Syntax.{w32}

pub returns : goal.returns
returns c l h =
    let times = c.args.labels in
    let departs = c.args.departs in
    let lt : l < 16 = h in
    let times_len : length times ≡ 16 = omega arith in
    let departs_len : length departs ≡ 16 = omega arith in
    let less : ℕ → ℕ → ℕ = λ a b. (a + (2 ^ 32 - b)) % 2 ^ 32 in
    let counted_len : length (zip2 less times departs) ≡ 16 =
    length-zip2 less times departs (times_len ∙ sym departs_len) ∙ times_len in
    since_of NEVER (2 ^ 32) (get_or departs l 0) (get_or times l 0) (get_or times l 0) _
    (let fits = c.requires.fits l lt in omega (arith, fits))
    (λ same. same) (c.requires.later l lt)
    (sel_at w32 16 eqb times (replicate 16 NEVER) times (zip2 less times departs) l lt times_len refl times_len
    counted_len
    ∙ rw (
      get_or-replicate {A = ℕ} 16 l NEVER 0 lt,
      get_or-zip2 less times departs l 0 0 0 (omega arith) (omega arith),
    ) refl)
