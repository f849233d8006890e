use Rattle.std.proofs.Common.{ℕ, ◌≡◌, inl, inr, subst, arith}
use Rattle.std.proofs.lemmas.Bool.{cases_lt}
use Rattle.std.proofs.lemmas.Option.{slice_get_within}
use Rattle.useful_minutes.specs.Marks.{CoversLine, HasWalks}
use Rattle.useful_minutes.proofs.MarkedTrips.{grows_on}
use Rattle.useful_minutes.proofs.MarkedLines.{covers_line_still}
use Rattle.useful_minutes.proofs.marks.mark_useful.Goals as goal

pub mark_line-requires-clause-walks : goal.mark_line-requires-clause-walks
mark_line-requires-clause-walks c = (
  c.args.network.now,
  c.args.origin.0,
  record {
    ok = c.known.ensures;
    lined = c.lines-lines.ensures;
    walked = rw c.as_slice.ensures.value c.in_ok-walks.ensures;
    noted = rw (c.as_slice.ensures.value, c.as_slice-2.ensures.value)
        (rw c.deref.ensures.value at c.in_ok-inner.ensures);
  },
)

pub loop-line-preserved : goal.loop-line-preserved
loop-line-preserved c =
    let n = c.args.network.now in
    let origin : ℕ = c.args.origin.0 in
    let old = c.loop-line.invariant in
    let told = c.in_ok-mark_line.ensures in
    let line = c.loop-line.line in
    let lines = c.lines-lines.result.now in
    let has : HasWalks n origin lines c.as_slice.result.now c.as_slice-2.result.now =
    record {
      ok = c.known.ensures;
      lined = c.lines-lines.ensures;
      walked = rw c.as_slice.ensures.value c.in_ok-walks.ensures;
      noted = rw (c.as_slice.ensures.value, c.as_slice-2.ensures.value)
          (rw c.deref.ensures.value at c.in_ok-inner.ensures);
    } in
    record {
      grows = grows_on old.grows told.grows;
      covers = λ k l. elim (cases_lt k line) [
        | inl lt ↦ covers_line_still n origin c.args.first lines.lines k told.grows (old.covers k lt)
        | inr ge ↦
            let e : line ≡ k = omega (arith, ge, l) in
            subst (CoversLine n origin c.args.first lines.lines c.mark_line.new.marks) e (told.covers n origin has)
      ];
    }

pub returns-clause-covers : goal.returns-clause-covers
returns-clause-covers c trip j i m ride =
    let n = c.args.network.now in
    let lined = c.lines-lines.ensures in
    let line = lined.lines.all trip (slice_get_within n.trips trip ride.on.t ride.on.runs) in
    let within = slice_get_within c.lines-lines.result.now.lines line.0 line.1.0 line.1.2 in
    c.loop-line.invariant.covers line.0 (omega (arith, within, c.loop-line-test.false, c.count-line-end.ensures)) trip j
    i m line.1 ride
