use Rattle.std.proofs.Common.{◌≡◌, ◌<◌, ◌∙◌, inl, inr, get_or, length, slice_get, Some, refl, ap, sym, subst, arith}
use Rattle.std.proofs.lemmas.Bool.{cases_lt}
use Rattle.std.proofs.lemmas.List.Filters.{dedup_is}
use Rattle.std.proofs.lemmas.List.Kept.{Contains-dedup_nat, Contains-from_dedup}
use Rattle.std.proofs.lemmas.List.Sorted.{Contains-permutation, IsPermutation-sym}
use Rattle.std.proofs.lemmas.Map.Keys.{IsStrictlyIncreasing-dedup}
use Rattle.std.proofs.lemmas.Option.{same_Some, slice_get-get_or, slice_get_read, slice_get_within}
use Rattle.std.proofs.Common.{Contains, eqb}
use Rattle.std.specs.List.{dedup}
use Rattle.std.specs.List.Sorted.{IsStrictlyIncreasing}
use Rattle.timetable.specs.declared.trips.Event.{Event}
use Rattle.timetable.specs.declared.trips.Trip.{Trip}
use Rattle.timetable.specs.Footpaths.{FeetData}
use Rattle.timetable.specs.Networks.{IsEvent}
use Rattle.timetable.proofs.KnownParts.{event_axis, event_stays, event_stop}
use Rattle.reversal.specs.Deadlines.{IsTripDeadline}
use Rattle.reversal.proofs.deadlines.deadlines_of.Goals as goal

pub add_deadlines-requires-clause-events : goal.add_deadlines-requires-clause-events
add_deadlines-requires-clause-events c k d l =
    let n = c.args.network.now in
    let t = c.trip-item.result in
    let i = c.loop-trip.trip-index in
    let e : Event = get_or t.events k d in
    let runs : slice_get n.trips i ≡ Some t =
    subst (λ ts. slice_get ts i ≡ Some t) c.trips-trip-items.ensures
    (slice_get_read c.trips-trip-items.result.now (length c.trips-trip-items.result.now) i t refl c.loop-trip-test.true
    c.trip-item.is) in
    let is : IsEvent n.trips i k e = (t, runs, slice_get-get_or t.events k d l) in
    let stop = event_stop n c.known.ensures i k e is in
    let stays = event_stays n c.known.ensures i k e is in
    let axis = event_axis n c.known.ensures i k e is in
    let lists = ap (λ (f : FeetData). length f.walks) c.feet-in-loop-trip.ensures in
    (omega (arith, stop, lists, c.known.ensures.in_range.lists), omega (arith, stays, axis))

pub loop-trip-preserved : goal.loop-trip-preserved
loop-trip-preserved c time =
    let n = c.args.network.now in
    let p = c.args.destination.0 in
    let here = c.loop-trip.trip-index in
    let item = c.trip-item.result in
    let more = c.in_ok-add_deadlines.ensures time in
    let was = c.loop-trip.invariant time in
    let feet = c.feet-in-loop-trip.ensures in
    let runs : slice_get n.trips here ≡ Some item =
    subst (λ ts. slice_get ts here ≡ Some item) c.trips-trip-items.ensures
    (slice_get_read c.trips-trip-items.result.now (length c.trips-trip-items.result.now) here item refl
    c.loop-trip-test.true c.trip-item.is) in (
      λ h. elim (more.0 h) [
        | inl old ↦ let w = was.0 old in (w.0, w.1, omega (arith, w.2), w.3, w.4, w.5)
        | inr new ↦ (
          here,
          item,
          omega arith,
          runs,
          subst (λ (f : FeetData). IsTripDeadline f.walks item p time) feet new.0,
          new.1,
        )
      ],
      λ w. elim (cases_lt w.0 here) [
        | inl before ↦ more.1 (inl (was.1 (w.0, w.1, before, w.3, w.4, w.5)))
        | inr now ↦
            let at : w.0 ≡ here = omega (arith, w.2, now) in
            let same : w.1 ≡ item = same_Some w.1 item (sym w.3 ∙ (ap (λ k. slice_get n.trips k) at ∙ runs)) in
            let moved = subst (λ (t : Trip). IsTripDeadline n.feet.walks t p time) same w.4 in
            more.1 (inr (subst (λ (f : FeetData). IsTripDeadline f.walks item p time) (sym feet) moved, w.5))
      ],
    )

pub returns-clause-exact : goal.returns-clause-exact
returns-clause-exact c time =
    let n = c.args.network.now in
    let found = c.loop-trip.times.items in
    let sorted = c.sort_unstable.new.self.items in
    let last = c.dedup.new.self.items in
    let same : last ≡ dedup eqb sorted = dedup_is eqb sorted last c.dedup.ensures.filtered in
    let perm = c.sort_unstable.ensures.permutation in
    let was = c.loop-trip.invariant time in (
      λ h.
          let in_sorted = Contains-from_dedup eqb sorted time (subst (λ xs. Contains xs time) same h) in
          let w = was.0 (Contains-permutation sorted found time (IsPermutation-sym found sorted perm) in_sorted) in
          (record { trip = w.0; t = w.1; runs = w.3; deadline = w.4 }, w.5),
      λ d.
          let within = slice_get_within n.trips d.0.trip d.0.t d.0.runs in
          let low : d.0.trip < c.loop-trip.trip-index =
          omega (arith, within, c.loop-trip-test.false, ap length c.trips-trip-items.ensures) in
          let there = was.1 (d.0.trip, d.0.t, low, d.0.runs, d.0.deadline, d.1) in
          subst (λ xs. Contains xs time) (sym same)
          (Contains-dedup_nat sorted time (Contains-permutation found sorted time perm there)),
    )

pub returns-clause-ascending : goal.returns-clause-ascending
returns-clause-ascending c =
    let sorted = c.sort_unstable.new.self.items in
    let last = c.dedup.new.self.items in
    let same : last ≡ dedup eqb sorted = dedup_is eqb sorted last c.dedup.ensures.filtered in
    subst IsStrictlyIncreasing (sym same) (IsStrictlyIncreasing-dedup sorted c.sort_unstable.ensures.sorted)
