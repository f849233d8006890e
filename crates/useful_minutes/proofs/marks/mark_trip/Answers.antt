use Rattle.std.proofs.Common.{◌≡◌, ◌+◌, ◌⊎◌, ℕ, get_or, slice_index, length, sym, subst, arith}
use Rattle.std.proofs.lemmas.List.{get_or-map}
use Rattle.std.proofs.lemmas.Option.{slice_get-get_or}
use Rattle.timetable.specs.declared.views.CallTimes.{CallTimes}
use Rattle.timetable.specs.LineViews.{departures_in}
use Rattle.useful_minutes.specs.Marks.{CoversTrip, IsLastBefore}
use Rattle.useful_minutes.proofs.MarkedTrips.{covered_next, grows_on}
use Rattle.useful_minutes.proofs.marks.mark_trip.Goals as goal

pub loop-position-preserved : goal.loop-position-preserved
loop-position-preserved c =
    let old = c.loop-position.invariant in
    let told = c.mark-next.ensures in
    let bs = c.args.boardings.now in
    let n = c.loop-position.position-index in
    let none : ℕ × ℕ = (0, 0) in
    let here = slice_get-get_or bs n none c.loop-position-test.true in
    let j : ℕ = (get_or bs n none).0 in
    let seconds : ℕ = (get_or bs n none).1 in
    let times = c.args.times.now in
    let inside = c.requires.inside n j seconds here in
    let zero : CallTimes = record { arrive = 0; depart = 0 } in
    let departs : ℕ → ℕ = λ i. slice_index (departures_in times) (c.args.from + i) in
    let e : departs j ≡ (get_or times (c.args.from + j) zero).depart =
    get_or-map (λ (t : CallTimes). t.depart) times (c.args.from + j) zero 0 inside.0 in
    record {
      grows = grows_on old.grows told.grows;
      covers = covered_next c.args.first bs departs c.loop-position.marks c.mark-next.new.marks n c.loop-position.next
          c.mark-next.result j seconds told.grows here
          (subst (λ (d : ℕ). (c.mark-next.result ≡ c.loop-position.next)
          ⊎ IsLastBefore (c.args.first + seconds) d c.mark-next.new.marks c.mark-next.result) (sym e) told.some)
          (λ m l. told.below m (omega (arith, l, e))) old.covers;
    }

pub returns-clause-covers : goal.returns-clause-covers
returns-clause-covers c =
    let bs = c.args.boardings.now in
    let all : c.loop-position.position-index ≡ length bs =
    omega (arith, c.loop-position-test.false, c.loop-position.auto.position-index-end) in
    subst (λ (n : ℕ). CoversTrip c.args.first bs (λ j. slice_index (departures_in c.args.times.now) (c.args.from + j))
    c.loop-position.marks n) all c.loop-position.invariant.covers.covers
