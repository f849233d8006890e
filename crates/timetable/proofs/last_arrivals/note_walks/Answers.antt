use Rattle.std.proofs.Common.{◌≡◌, inl, inr, get_or, length, sym, ◌∙◌, ap, arith}
use Rattle.std.proofs.lemmas.Bool.{cases_lt}
use Rattle.std.proofs.lemmas.Option.{same_Some, slice_get-get_or, slice_get_within}
use Rattle.timetable.proofs.last_arrivals.note_walks.Goals as goal

pub walk_on-requires-clause-targets : goal.walk_on-requires-clause-targets
walk_on-requires-clause-targets c k d within =
    let row = c.leaving.result.now in
    let in_range = (c.known.ensures.in_range.walks.rows c.loop-stop.stop row c.leaving.ensures).targets k
    (get_or row k d) (slice_get-get_or row k d within) in
    omega (arith, in_range.0, c.requires.ridden, ap length c.requires.begins, c.loop-stop.auto.last)

pub walk_on-requires-clause-seconds : goal.walk_on-requires-clause-seconds
walk_on-requires-clause-seconds c k d within =
    let row = c.leaving.result.now in
    c.known.ensures.within.walks.rows c.loop-stop.stop row c.leaving.ensures k (get_or row k d)
    (slice_get-get_or row k d within)

pub loop-stop-preserved : goal.loop-stop-preserved
loop-stop-preserved c =
    let before = c.loop-stop.invariant in
    let told = c.walk_on.ensures in
    let x = c.loop-stop.stop in
    record {
      rides = λ p. let low = before.rides p in let more = told.rises p in omega arith;
      walks = λ q p seconds l foot. elim (cases_lt q x) [
        | inl lt ↦ let low = before.walks q p seconds lt foot in let more = told.rises p in omega arith
        | inr ge ↦
            let e : q ≡ x = omega arith in
            let same = same_Some foot.0 c.leaving.result.now (sym (rw e at foot.2) ∙ c.leaving.ensures) in
            rw e (told.here foot.1 p seconds (rw same at foot.3))
      ];
      some = λ p. elim (told.told p) [
        | inl e ↦ elim (before.some p) [
          | inl none ↦ inl (e ∙ none)
          | inr y ↦ inr (y.0, y.1, y.2, y.3 ∙ sym e)
        ]
        | inr y ↦ inr (x, y.1, (c.leaving.result.now, y.0, c.leaving.ensures, y.2), y.3)
      ];
      early = told.early;
    }

pub returns-clause-walks : goal.returns-clause-walks
returns-clause-walks c q p seconds foot =
    let within = slice_get_within c.args.feet.now.walks q foot.0 foot.2 in
    c.loop-stop.invariant.walks q p seconds (omega (arith, c.loop-stop-test.false)) foot
