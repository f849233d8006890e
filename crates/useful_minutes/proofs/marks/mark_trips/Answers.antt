use Rattle.std.proofs.Common.{◌≡◌, ◌+◌, ◌*◌, ℕ, inl, inr, slice_index, length, subst, arith}
use Rattle.std.proofs.lemmas.Bool.{cases_lt}
use Rattle.std.proofs.lemmas.Nat.{mul-add-lt}
use Rattle.timetable.specs.LineViews.{departures_in}
use Rattle.useful_minutes.specs.Marks.{CoversTrip}
use Rattle.useful_minutes.proofs.MarkedTrips.{covers_still, grows_on}
use Rattle.useful_minutes.proofs.marks.mark_trips.Goals as goal

pub mark_trip-requires-clause-inside : goal.mark_trip-requires-clause-inside
mark_trip-requires-clause-inside c k j seconds here =
    let inside = c.requires.inside k j seconds here in
    let in_grid = mul-add-lt c.loop-rank.rank c.args.positions j c.args.trips c.loop-rank-test.true inside.0 in
    (omega (arith, in_grid, c.requires.size), inside.1)

pub loop-rank-preserved : goal.loop-rank-preserved
loop-rank-preserved c =
    let old = c.loop-rank.invariant in
    let told = c.mark_trip.ensures in
    let bs = c.args.boardings.now in
    let rank = c.loop-rank.rank in
    record {
      grows = grows_on old.grows told.grows;
      covers = λ r l. elim (cases_lt r rank) [
        | inl lt ↦ covers_still c.args.first (length bs) told.grows (old.covers r lt)
        | inr ge ↦
            let e : rank ≡ r = omega (arith, ge, l) in
            subst (λ (x : ℕ). CoversTrip c.args.first bs
            (λ j. slice_index (departures_in c.args.times.now) (x * c.args.positions + j)) c.mark_trip.new.marks
            (length bs)) e told.covers
      ];
    }

pub returns-clause-covers : goal.returns-clause-covers
returns-clause-covers c r l = c.loop-rank.invariant.covers r (omega (arith, l, c.loop-rank-test.false))
