use Rattle.std.proofs.Common.{inl, inr, false, get_or, slice_index, refl}
use Rattle.std.proofs.lemmas.Option.{slice_get-get_or}
use Rattle.timetable.specs.declared.views.Call.{Call}
use Rattle.useful_minutes.proofs.MarkedLines.{boardings_more, boardings_same, no_boarding, stays_there}
use Rattle.useful_minutes.proofs.marks.boardings_of.Goals as goal
use Rattle.useful_minutes.proofs.marks.boardings_of.Goals.{
  then-seconds+then-calls-position+then-leads_away+in_ok-push,
}
use Rattle.useful_minutes.proofs.marks.boardings_of.Goals.{else-seconds, else-seconds-via-else-seconds}
use Rattle.useful_minutes.proofs.marks.boardings_of.Goals.{else-seconds-via-then-seconds+else-calls-position}
use Rattle.useful_minutes.proofs.marks.boardings_of.Goals.{
  else-seconds-via-then-seconds+then-calls-position+else-leads_away,
}

pub loop-position-preserved : goal.loop-position-preserved
loop-position-preserved c =
    let calls = c.args.calls.now in
    let walks = c.args.nearby.walks.now in
    let inner = c.args.nearby.inner.now in
    let n = c.loop-position.position in
    let none : Call = record { stop = record { 0 = 0 }; board = false; alight = false } in
    let call = get_or calls n none in
    let here = slice_get-get_or calls n none c.loop-position-test.true in
    let old = c.loop-position.invariant in
    elim c.if-seconds.branch [
      | then-seconds+then-calls-position+then-leads_away+in_ok-push w ↦
          rw (w.boardings-is, w.in_ok-push.ensures.items)
          (boardings_more calls walks inner n (slice_index walks call.stop.0) c.loop-position.boardings.items (record {
            call = call;
            here = here;
            rides_on = w.leads_away.ensures.goes_on w.if-leads_away.true;
            may_board = w.if-calls-position.true;
            walk = refl;
            some = w.if-seconds.true;
          }) old)
      | else-seconds w ↦ rw w.boardings-is (boardings_same calls walks inner n c.loop-position.boardings.items (λ s b.
          elim w.else-seconds.branch [
            | else-seconds-via-then-seconds+then-calls-position+else-leads_away v ↦
                stays_there calls walks inner n s call here (v.leads_away.ensures.stays v.if-leads_away.false) b
            | else-seconds-via-then-seconds+else-calls-position v ↦
                absurd (no_boarding calls walks n s call here (inl v.if-calls-position.false) b)
            | else-seconds-via-else-seconds v ↦
                absurd (no_boarding calls walks n s call here (inr v.if-seconds.false) b)
          ]) old)
    ]
