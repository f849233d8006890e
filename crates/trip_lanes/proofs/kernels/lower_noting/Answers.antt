use Rattle.std.proofs.Common.{◌≡◌, ◌<◌, ◌-◌, length, arith, get_or, false, slice_get, Some, true, sym, ◌∙◌, ap, inl, inr}
use Rattle.std.proofs.lemmas.Bool.{false≢true, cases_Bool}
use Rattle.std.proofs.lemmas.Option.{slice_get-get_or, get_or_from_slice_get}
use Rattle.trip_lanes.proofs.LabelsBeforeFalls.{noted_first, noted_again}
use Rattle.trip_lanes.proofs.kernels.lower_noting.Goals as goal

pub returns-clause-before : goal.returns-clause-before
returns-clause-before g c l was h are =
    let labels = g.R.LaneLabels.labels in
    let lanes = g.R.LaneLabels.LANES in
    let s = c.args.stop in
    let old = c.index-ready-stop.result in
    let ready = c.args.ready.now in
    let low = c.lower_from.new.labels in
    let kept = c.args.before.now in
    let fallen = c.args.fallen.now in
    let is = c.lower_from.new.marked in
    let in_fallen : s < length fallen = omega (arith, c.requires.stop, c.requires.fallen) in
    elim (cases_Bool (get_or fallen s false)) [
      | inl on ↦
          let again : slice_get fallen s ≡ Some true = slice_get-get_or fallen s false in_fallen ∙ ap Some on in
          rw (c.keep_first.ensures.later on) (noted_again labels was ready low kept fallen is s lanes l old
          c.args.times c.lower_from.ensures.lanes c.lower_from.ensures.marks c.requires.fallen h
          c.index-ready-stop.is c.requires.stop are (length kept - 1) again (omega (arith, c.requires.before)))
      | inr off ↦ rw (c.keep_first.ensures.first off) (noted_first labels was ready low kept fallen is s lanes l old
          c.args.times c.lower_from.ensures.lanes c.lower_from.ensures.marks c.requires.fallen h
          c.index-ready-stop.is c.requires.stop are
          (λ on. false≢true (sym off ∙ get_or_from_slice_get fallen s true false on))
          (omega (arith, c.requires.stop, c.requires.before)))
    ]
