use Rattle.std.proofs.Common.{◌≤◌, ◌∙◌, arith, length, sym}
use Rattle.table_records.proofs.DistinctTexts.{equal_ends, found_same}
use Rattle.table_records.proofs.identifiers.ends_are_equal.Goals as goal

pub returns-then-eq : goal.returns-then-eq
returns-then-eq g c same =
    let (start, rest, whole) = c.in-Some-Some.ensures.cases in
    let (other, _, _) = c.in-Some-Some.ensures'.cases in
    let long : g.row.N ≤ length c.args.a.now = omega (arith, whole) in
    let first = found_same c.in-Some-Some.a_first.now c.in-Some-Some.b_first.now (sym c.eq.ensures ∙ c.if-eq.true) in
    equal_ends g.row.N c.args.a.now c.args.b.now c.requires.same long c.requires.all (sym start ∙ first
    ∙ other) (c.last_are_equal.ensures same)
