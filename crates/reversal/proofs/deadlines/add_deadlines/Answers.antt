use Rattle.std.proofs.Common.{◌≡◌, ◌<◌, ◌-◌, inl, inr, get_or, length, slice_get, ℕ, false, Some, sym, subst, arith}
use Rattle.std.proofs.lemmas.Option.{slice_get-get_or}
use Rattle.timetable.specs.declared.trips.Event.{Event}
use Rattle.reversal.proofs.DeadlinesFound.{AreFound, found_more}
use Rattle.reversal.proofs.deadlines.add_deadlines.Goals as goal

pub loop-i-preserved : goal.loop-i-preserved
loop-i-preserved c =
    let feet = c.args.feet.now in
    let trip = c.args.trip.now in
    let p = c.args.p.0 in
    let j : ℕ = c.loop-i.i - 1 in
    let d : Event = record { stop = record { 0 = 0 }; arrive = 0; depart = 0; board = false; alight = false } in
    let e : Event = get_or c.as_slice-events.result.now j d in
    let within : j < length c.as_slice-events.result.now = omega (arith, c.loop-i.auto.i, c.loop-i-test.true) in
    let at : slice_get trip.events j ≡ Some e =
    subst (λ es. slice_get es j ≡ Some e) c.as_slice-events.ensures
    (slice_get-get_or c.as_slice-events.result.now j d within) in
    subst (λ (l : ℕ). AreFound feet.walks trip p c.args.first j l c.args.times.now.items c.add_earlier.new.times.items)
    (sym c.in_ok-least.ensures.least)
    (found_more feet c.known.ensures trip p c.args.first c.loop-i.i j c.loop-i.least c.arrival_at-time.result
    c.args.times.now.items c.loop-i.times.items c.add_earlier.new.times.items e
    (omega (arith, c.loop-i-test.true)) (omega (arith, c.loop-i-test.true)) at c.loop-i.invariant
    c.arrival_at-time.ensures (omega (arith, c.arrival_at-time.type_inv)) c.in_ok-least.ensures.times)

pub returns : goal.returns
returns c time =
    let trip = c.args.trip.now in
    let all = c.loop-i.invariant.exact time in (
      λ h. elim (all.0 h) [
        | inl old ↦ inl old
        | inr b ↦ inr (record { i = b.0; ridden = b.2; best = b.3 }, b.4)
      ],
      λ h. elim h [
        | inl old ↦ all.1 (inl old)
        | inr d ↦ all.1 (inr (d.0.i, omega (arith, d.0.ridden, c.loop-i-test.false), d.0.ridden, d.0.best, d.1))
      ],
    )
