use Rattle.std.proofs.Common.{◌<◌, inl, inr, arith}
use Rattle.std.proofs.lemmas.Bool.{cases_eq}
use Rattle.std.proofs.lemmas.List.{get_or-set_same, get_or-set_other}
use Rattle.rounds.proofs.ArrivalInEachLane.{lower_arrival}
use Rattle.rounds.proofs.unreached.leave_out.Goals as goal

pub loop-stop-preserved : goal.loop-stop-preserved
loop-stop-preserved g c =
    let s = c.loop-stop.stop in
    let some : 0 < g.R.LaneLabels.LANES = omega (arith, g.met.R.LaneLabels.some) in
    let here = get_or-set_same c.loop-stop.last s c.number_of-number.result 0 (omega arith) in
    let low =
    lower_arrival g.R.LaneLabels.labels c.args.ride.now c.args.ready.now s 0 c.index-ride-stop.result
    c.index-ready-stop.result
    c.index-ride-stop.result c.index-ready-stop.result c.lower_of.result
    c.index-ride-stop.is c.index-ready-stop.is (omega (arith, c.requires.ride)) (omega (arith, c.requires.ready))
    (c.lower_of.ensures 0 some) in
    record {
      falls = λ p. elim (cases_eq p s) [
        | inl e ↦ let was = c.loop-stop.invariant.falls s in
            rw e (omega (arith, here, was, c.number_of-number.ensures.falls))
        | inr ne ↦ let was = c.loop-stop.invariant.falls p in
            let other = get_or-set_other c.loop-stop.last s p c.number_of-number.result 0 ne in
            omega (arith, was, other)
      ];
      kept = λ p reached. elim (cases_eq p s) [
        | inl e ↦
            let reached' = rw e at reached in
            let was = c.loop-stop.invariant.kept s reached' in
            let same = c.number_of-number.ensures.kept
            (λ never. reached' (omega (arith, low, never, c.first-arrived.ensures))) in
            rw e (omega (arith, here, was, same))
        | inr ne ↦ let was = c.loop-stop.invariant.kept p reached in
            let other = get_or-set_other c.loop-stop.last s p c.number_of-number.result 0 ne in
            omega (arith, was, other)
      ];
    }
