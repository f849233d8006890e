use Rattle.std.proofs.Common.{◌≡◌, ◌≤◌, ◌∙◌, inl, inr, ℕ, length, get_or, slice_get, sym, ap, arith}
use Rattle.std.proofs.lemmas.Bool.{cases_lt}
use Rattle.std.proofs.lemmas.Option.{same_Some, slice_get-get_or}
use Rattle.rounds.proofs.window.longest.Goals as goal
use Rattle.rounds.proofs.window.longest.Goals.{then-trips-most, else-trips-most}

pub loop-line-preserved : goal.loop-line-preserved
loop-line-preserved c k row below at =
    let more = c.if-trips-most.most in
    let grows : c.loop-line.most ≤ more = elim c.if-trips-most.branch [
      | then-trips-most w ↦ (let e = w.most-is in let t = w.if-trips-most.true in omega arith)
      | else-trips-most w ↦ (let e = w.most-is in omega arith)
    ] in
    let here : length c.trips_of-trips.result.now ≤ more = elim c.if-trips-most.branch [
      | then-trips-most w ↦ (let e = w.most-is in omega arith)
      | else-trips-most w ↦ (let e = w.most-is in let t = w.if-trips-most.false in omega arith)
    ] in
    elim (cases_lt k c.loop-line.line) [
      | inl lt ↦ let old = c.loop-line.invariant k row lt at in omega arith
      | inr ge ↦
          let e : c.loop-line.line ≡ k = omega arith in
          let same : c.trips_of-trips.result.now ≡ row =
          same_Some c.trips_of-trips.result.now row (sym c.trips_of-trips.ensures
          ∙ (ap (λ (i : ℕ). slice_get c.args.lines.now.lines i) e ∙ at)) in
          let long = ap length same in
          omega (arith, long)
    ]

pub returns : goal.returns
returns c k d l = c.loop-line.invariant k (get_or c.args.lines.now.lines k d) (omega arith)
    (slice_get-get_or c.args.lines.now.lines k d l)
