use Rattle.std.proofs.Common.{inl, inr, slice_index, arith, refl}
use Rattle.std.proofs.lemmas.Bool.{cases_lt}
use Rattle.trip_lanes.proofs.ranks.board.Goals as goal

pub returns-clause-fits : goal.returns-clause-fits
returns-clause-fits g c l h = omega (arith, c.lower_of.ensures l h, c.requires.fits l h)

pub returns-clause-sound : goal.returns-clause-sound
returns-clause-sound g c l r h on =
    let was = g.R.LaneLabels.labels c.args.run in
    let ready = g.R.LaneLabels.labels c.args.ready in
    let n = c.lower_of.ensures l h in
    elim (cases_lt c.args.depart (slice_index ready l)) [
      | inl late ↦
          let o = c.catch.ensures.others l h late in
          inl (record { on = omega (arith, n, o, c.requires.fits l h, on.on, on.some); some = on.some })
      | inr soon ↦
          let o = c.catch.ensures.caught l h soon in
          elim (cases_lt c.args.rank (slice_index was l)) [
            | inl lt ↦ inr (omega (arith, n, o, on.on), soon)
            | inr ge ↦ inl (record { on = omega (arith, n, o, on.on); some = on.some })
          ]
    ]

pub returns-clause-kept : goal.returns-clause-kept
returns-clause-kept g c l r h o =
    let n = c.lower_of.ensures l h in (
      slice_index (g.R.LaneLabels.labels c.lower_of.result) l,
      omega (arith, n, o.1, o.2.on),
      record { on = refl; some = omega (arith, n, o.2.on, o.2.some) },
    )

pub returns-clause-caught : goal.returns-clause-caught
returns-clause-caught g c l h soon =
    let n = c.lower_of.ensures l h in
    let o = c.catch.ensures.caught l h soon in (
      slice_index (g.R.LaneLabels.labels c.lower_of.result) l,
      omega (arith, n, o),
      record { on = refl; some = omega (arith, n, o) },
    )
