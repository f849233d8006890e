use Rattle.std.proofs.Common.{◌<◌, inl, inr, slice_index, arith}
use Rattle.std.proofs.lemmas.Bool.{cases_eq, cases_lt}
use Rattle.trip_lanes.proofs.line_scan.board_position.Goals as goal

pub returns-then-depart-fall-2-clause-ranks : goal.returns-then-depart-fall-2-clause-ranks
returns-then-depart-fall-2-clause-ranks g c l r h on =
    elim (c.board-riding.ensures.sound l r h on) [
      | inl o ↦ c.loop-rank.invariant.ranks l r h o
      | inr o ↦ omega (arith, o.0, c.loop-rank-test.true)
    ]

pub returns-then-depart-fall-2-clause-sound : goal.returns-then-depart-fall-2-clause-sound
returns-then-depart-fall-2-clause-sound g c l r h on =
    elim (c.board-riding.ensures.sound l r h on) [
      | inl o ↦ c.loop-rank.invariant.sound l r h o
      | inr o ↦ inr (rw o.0 (omega (arith, o.1, c.departure-depart.ensures)))
    ]

pub returns-then-depart-fall-2-clause-kept : goal.returns-then-depart-fall-2-clause-kept
returns-then-depart-fall-2-clause-kept g c l r h on =
    c.board-riding.ensures.kept l r h (c.loop-rank.invariant.kept l r h on)

pub returns-then-depart-fall-2-clause-caught : goal.returns-then-depart-fall-2-clause-caught
returns-then-depart-fall-2-clause-caught g c l r before h up fall below catches =
    let ready = slice_index (g.R.LaneLabels.labels c.args.ready.now) l in
    let lower : ready < before = omega (arith, catches.in_time, catches.fresh) in
    elim (cases_lt r c.args.first) [
      | inl early ↦ absurd (let e = c.requires.early up r early in let low = fall.low lower in
          omega (arith, catches.in_time, e, low))
      | inr from ↦ elim (cases_lt r c.loop-rank.rank) [
        | inl lt ↦ c.board-riding.ensures.kept l r h (c.loop-rank.invariant.caught l r h from lt catches.in_time)
        | inr past ↦
            let high = fall.high lower in
            let o = c.board-riding.ensures.caught l h (omega (arith, high, c.if-depart-fall-2.true)) in
            (o.0, omega (arith, o.1, past), o.2)
      ]
    ]

pub loop-rank-preserved : goal.loop-rank-preserved
loop-rank-preserved g c =
    let old = c.loop-rank.invariant in
    let x = c.loop-rank.rank in
    record {
      fits = c.board-riding.ensures.fits;
      ranks = λ k r h on. elim (c.board-riding.ensures.sound k r h on) [
        | inl o ↦ old.ranks k r h o
        | inr o ↦ omega (arith, o.0, c.loop-rank-test.true)
      ];
      sound = λ k r h on. elim (c.board-riding.ensures.sound k r h on) [
        | inl o ↦ old.sound k r h o
        | inr o ↦ inr (rw o.0 (omega (arith, o.1, c.departure-depart.ensures)))
      ];
      kept = λ k r h on. c.board-riding.ensures.kept k r h (old.kept k r h on);
      caught = λ k r h low below soon. elim (cases_eq r x) [
        | inl e ↦
            let now = rw e at soon in
            rw e (c.board-riding.ensures.caught k h (omega (arith, now, c.departure-depart.ensures)))
        | inr ne ↦ c.board-riding.ensures.kept k r h (old.caught k r h low (omega (arith, below, ne)) soon)
      ];
    }
