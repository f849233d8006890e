use Rattle.std.proofs.Common.{◌≡◌, ◌≢◌, ℕ, ◌<◌, inl, inr, ◌∙◌, sym, slice_index, arith}
use Rattle.std.proofs.lemmas.Bool.{cases_lt, false≢true}
use Rattle.rounds.proofs.ArrivalInEachLane.{lower_arrival}
use Rattle.rounds.proofs.batches.labels_suffice.Goals.{else-not-is_representable-via-then-not-is_representable+else-not-is_reached}
use Rattle.rounds.proofs.batches.labels_suffice.Goals.{else-not-is_representable-via-else-not-is_representable}
use Rattle.rounds.proofs.batches.labels_suffice.Goals as goal

pub loop-stop-preserved : goal.loop-stop-preserved
loop-stop-preserved g c l p h below departures never = elim (cases_lt p c.loop-stop.stop) [
  | inl lt ↦ c.loop-stop.invariant l p h lt departures never
  | inr ge ↦
      let s = c.loop-stop.stop in
      let e : p ≡ s = omega arith in
      rw e (elim c.else-not-is_representable.branch [
        | else-not-is_representable-via-then-not-is_representable+else-not-is_reached w ↦
            let low =
            lower_arrival g.R.LaneLabels.labels c.args.ride.now c.args.ready.now s l w.index-ride-stop.result
            w.index-ready-stop.result w.index-ride-stop.result w.index-ready-stop.result w.lower_of.result
            w.index-ride-stop.is w.index-ready-stop.is (omega (arith, c.requires.same)) c.loop-stop-test.true
            (w.lower_of.ensures l h) in
            absurd (w.is_reached.ensures.0 w.if-not-is_reached.false l h departures (low ∙ rw e at never))
        | else-not-is_representable-via-else-not-is_representable w ↦ c.is_representable.ensures.0 w.if-not-is_representable.false
      ])
]

pub returns-then-not-is_reached : goal.returns-then-not-is_reached
returns-then-not-is_reached g c =
    let s = c.loop-stop.stop in
    record {
      suffice = (
        λ no. absurd (false≢true no),
        λ h.
            let reached : (l : ℕ) → l < g.R.LaneLabels.LANES →
            slice_index (g.R.LaneLabels.labels c.args.departures) l ≢ g.R.LaneLabels.NEVER →
            slice_index (g.R.LaneLabels.labels c.lower_of.result) l ≢ g.R.LaneLabels.NEVER = λ l lt departures never. (
            let low =
            lower_arrival g.R.LaneLabels.labels c.args.ride.now c.args.ready.now s l c.index-ride-stop.result
            c.index-ready-stop.result c.index-ride-stop.result c.index-ready-stop.result c.lower_of.result
            c.index-ride-stop.is c.index-ready-stop.is (omega (arith, c.requires.same)) c.loop-stop-test.true
            (c.lower_of.ensures l lt) in
            false≢true (sym c.if-not-is_representable.true ∙ c.is_representable.ensures.1
            (h l s lt c.loop-stop-test.true departures (sym low ∙ never)))) in
            absurd (false≢true (sym c.if-not-is_reached.true ∙ c.is_reached.ensures.1 reached)),
      );
    }
