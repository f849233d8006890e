use Rattle.std.proofs.Common.{◌≡◌, ◌≤ℤ◌, arith, neg_ℤ, pos, rules}
use Rattle.std.proofs.lemmas.Int.{ints}
use Rattle.scenarios.specs.Edits.{shift_of}
use Rattle.scenarios.proofs.ShiftBounds.{shift_within}
use Rattle.scenarios.proofs.scenario.Scenario.shift.Goals as goal

pub returns-clause-low : goal.returns-clause-low
returns-clause-low c =
    let same : c.unwrap_or.result ≡ shift_of c.self.inside.edits.items c.args.trip = search rules in
    let bound = shift_within c.self.inside.edits.items c.args.trip c.self.invariant.few c.self.invariant.within in
    let low : neg_ℤ (pos 60479900000) ≤ℤ c.unwrap_or.result = rw same bound.0 in
    omega (arith, ints)

pub returns-clause-high : goal.returns-clause-high
returns-clause-high c =
    let same : c.unwrap_or.result ≡ shift_of c.self.inside.edits.items c.args.trip = search rules in
    let bound = shift_within c.self.inside.edits.items c.args.trip c.self.invariant.few c.self.invariant.within in
    let high : c.unwrap_or.result ≤ℤ pos 60479900000 = rw same bound.1 in
    omega (arith, ints)
