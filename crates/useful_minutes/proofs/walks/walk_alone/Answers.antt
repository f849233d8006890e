use Rattle.std.proofs.Common.{◌≡◌, ℕ, ◌*◌, ◌<◌, inl, inr, get_or, min, slice_get, Some, sym, ◌∙◌, subst, arith}
use Rattle.std.proofs.lemmas.Option.{slice_get-get_or}
use Rattle.timetable.specs.declared.trips.StopNo.{StopNo}
use Rattle.timetable.proofs.KnownParts.{foot_in_range}
use Rattle.useful_minutes.specs.Waits.{label_at}
use Rattle.useful_minutes.proofs.FilledLabels.{chunks_within}
use Rattle.useful_minutes.proofs.WalksAlone.{walked_more, walked_all}
use Rattle.useful_minutes.proofs.walks.walk_alone.Goals as goal

pub lower_stop-requires-in-loop-stop-clause-labels : goal.lower_stop-requires-in-loop-stop-clause-labels
lower_stop-requires-in-loop-stop-clause-labels c =
    let n = c.args.network.now in
    let row = c.leaving-stop-items.result.now in
    let k = c.loop-stop.stop-index in
    let none : StopNo × ℕ = (record { 0 = 0 }, 0) in
    let here = slice_get-get_or row k none c.loop-stop-test.true in
    let at : slice_get n.feet.walks c.args.origin.0 ≡ Some row = rw c.feet.ensures at c.leaving-stop-items.ensures in
    let target = foot_in_range n.feet c.known.ensures.feet c.args.origin.0 (get_or row k none).0.0 (get_or row k none).1
    (row, k, at, here) in
    let within = chunks_within c.args.chunks (get_or row k none).0.0 n.stops
    (omega (arith, target.0, c.known.ensures.in_range.lists)) in
    omega (arith, within, c.loop-stop.invariant.same, c.requires.labels)

pub loop-stop-preserved : goal.loop-stop-preserved
loop-stop-preserved c =
    let n = c.args.network.now in
    let row = c.leaving-stop-items.result.now in
    let k = c.loop-stop.stop-index in
    let none : StopNo × ℕ = (record { 0 = 0 }, 0) in
    let walk = get_or row k none in
    let here = slice_get-get_or row k none c.loop-stop-test.true in
    let at : slice_get n.feet.walks c.args.origin.0 ≡ Some row = rw c.feet.ensures at c.leaving-stop-items.ensures in
    let told = c.lower_stop-in-loop-stop.ensures in
    let old = c.loop-stop.invariant in
    let chunks = c.args.chunks in
    record {
      same = told.same ∙ old.same;
      walked = λ p m h l.
          let inside : m < 16 * chunks = omega (arith, l, c.requires.chunks) in
          walked_more n c.args.origin.0 row at k p (label_at chunks c.args.labels.now p m)
          (label_at chunks c.loop-stop.labels p m) (label_at chunks c.lower_stop-in-loop-stop.new.labels p m) walk here
          (λ e. subst (λ (q : ℕ). label_at chunks c.lower_stop-in-loop-stop.new.labels q m
          ≡ min (label_at chunks c.loop-stop.labels q m) walk.1) (sym e) (told.lowered m l))
          (λ ne. told.kept p m inside (inl ne)) (old.walked p m h l);
      kept = λ p m h past l. told.kept p m l (inr past) ∙ old.kept p m h past l;
    }

pub returns-clause-walked : goal.returns-clause-walked
returns-clause-walked c p m h l =
    let n = c.args.network.now in
    let row = c.leaving-stop-items.result.now in
    let at : slice_get n.feet.walks c.args.origin.0 ≡ Some row = rw c.feet.ensures at c.leaving-stop-items.ensures in
    walked_all n c.args.origin.0 row at c.loop-stop.stop-index p _ _ (omega (arith, c.loop-stop-test.false))
    (c.loop-stop.invariant.walked p m h l)
