use Rattle.std.proofs.Common.{◌≡◌, ℕ, ◌+◌, ◌-◌, ◌*◌, ◌<◌, ◌≤◌, ◌⊎◌, inl, inr, length, slice_index, ap, arith, ◌∙◌}
use Rattle.std.proofs.lemmas.Bool.{cases_lt}
use Rattle.useful_minutes.proofs.FilledLabels.{position_before}
use Rattle.rounds.proofs.ArrivalInEachLane.{lower_arrival}
use Rattle.rounds.proofs.narrow.write_found.Goals as goal

-- places of other stops, or past the lanes that are written, are others
other_place : (w s from lanes p j : ℕ) → from + lanes ≤ w → j < w → ((p ≡ s) → (j < from) ⊎ (from + lanes ≤ j)) →
    (p * w + j < s * w + from) ⊎ (s * w + from + lanes ≤ p * w + j)
other_place w s from lanes p j few within apart = elim (cases_lt p s) [
  | inl less ↦ let before = position_before w p s j less within in inl (omega (arith, before))
  | inr ge ↦ elim (cases_lt s p) [
    | inl more ↦
        elim (cases_lt (from + lanes) 1) [
          | inl none ↦ let e = position_before w s p 0 more (omega (arith, within)) in inr (omega (arith, e, none))
          | inr some ↦
              let e = position_before w s p (from + lanes - 1) more (omega (arith, few, some)) in
              inr (omega (arith, e, some))
        ]
    | inr le ↦
        let same : p ≡ s = omega (arith, ge, le) in
        let place = ap (λ (x : ℕ). x * w) same in
        elim (apart same) [
          | inl before ↦ inl (omega (arith, before, place))
          | inr after ↦ inr (omega (arith, after, place))
        ]
  ]
]

pub loop-stop-preserved : goal.loop-stop-preserved
loop-stop-preserved g c =
    let s = c.loop-stop.stop in
    let w = c.args.width in
    let from = c.args.from in
    let lanes = g.R.LaneLabels.LANES in
    let labels = g.R.LaneLabels.labels in
    let old = c.loop-stop.invariant in
    let ride = c.as_slice-ride.result.now in
    let ready = c.as_slice-ready.result.now in
    let in_ready : s < length c.args.workspace.now.ready.labels.items =
    omega (arith, c.loop-stop-test.true, ap length c.as_slice-ready.ensures.value) in
    let in_ride : s < length ride = omega (arith, in_ready, c.requires.same, ap length c.as_slice-ride.ensures.value) in
    let put = c.put.ensures in
    record {
      same = put.same ∙ old.same;
      written = λ l p h below. elim (cases_lt p s) [
        | inl less ↦
            put.kept (p * w + (from + l)) (other_place w s from lanes p (from + l) c.requires.from
            (omega (arith, h, c.requires.from)) (λ e. absurd (omega (arith, e, less)))) ∙ old.written l p h less
        | inr ge ↦
            let e : p ≡ s = omega (arith, ge, below) in
            let place : s * w + (from + l) ≡ s * w + from + l = omega arith in
            let low = lower_arrival labels ride ready s l c.index-ride-stop.result c.index-ready-stop.result
            c.index-ride-stop.result c.index-ready-stop.result c.lower_of.result c.index-ride-stop.is
            c.index-ready-stop.is in_ride c.loop-stop-test.true (c.lower_of.ensures l h) in
            rw e (ap (λ (i : ℕ). slice_index c.put.new.found i) place ∙ (put.put l h ∙ low))
      ];
      kept = λ p j within apart.
          put.kept (p * w + j) (other_place w s from lanes p j c.requires.from within (λ _. apart))
          ∙ old.kept p j within apart;
    }
