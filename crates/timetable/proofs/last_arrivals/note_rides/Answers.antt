use Rattle.std.proofs.Common.{◌≡◌, ◌≤◌, ℕ, inl, inr, List, slice_get, slice_index, sym, ◌∙◌, ap, subst, Some, arith}
use Rattle.std.proofs.lemmas.Bool.{cases_lt}
use Rattle.std.proofs.lemmas.Option.{slice_get-get_or, slice_get_within}
use Rattle.timetable.specs.declared.trips.Event.{Event}
use Rattle.timetable.specs.declared.trips.Trip.{Trip}
use Rattle.timetable.specs.LastArrivals.{Comes}
use Rattle.timetable.specs.Trips.{EventsRise}
use Rattle.timetable.proofs.ElementsInRange.{is_at}
use Rattle.timetable.proofs.last_arrivals.note_rides.Goals as goal

pub loop-trip-init : goal.loop-trip-init
loop-trip-init c =
    record {
      here = λ x k t e l. absurd (omega (arith, l));
      some = λ p. inl (c.requires.begins p);
      early = λ p. let none = c.requires.begins p in omega arith;
    }

pub note_arrivals-requires-clause-rise : goal.note_arrivals-requires-clause-rise
note_arrivals-requires-clause-rise c =
    let here = c.requires.rise c.loop-trip.trip-index c.trip-item.result c.loop-trip-test.true in
    rw c.as_slice.ensures (subst (λ (t : Trip). EventsRise t.events) (sym c.trip-item.is) here)

pub loop-trip-preserved : goal.loop-trip-preserved
loop-trip-preserved c =
    let before = c.loop-trip.invariant in
    let told = c.note_arrivals.ensures in
    let i = c.loop-trip.trip-index in
    let same : c.as_slice.result.now ≡ c.trip-item.result.events = c.as_slice.ensures in
    record {
      here = λ x k t e l at at_k may. elim (cases_lt x i) [
        | inl lt ↦ let low = before.here x k t e lt at at_k may in let up = told.rises e.stop.0 in omega arith
        | inr ge ↦
            let s : x ≡ i = omega arith in
            let same : t ≡ c.trip-item.result =
            is_at c.args.trips.now x i t c.trip-item.result c.loop-trip-test.true s at ∙ sym c.trip-item.is in
            let events : c.as_slice.result.now ≡ t.events = c.as_slice.ensures ∙ ap (λ (u : Trip). u.events)
            (sym same) in
            told.here k e (ap (λ (v : List Event). slice_get v k) events ∙ at_k) may
      ];
      some = λ p. elim (told.told p) [
        | inl e ↦ subst (λ (n : ℕ). Comes c.args.trips.now p n) (sym e) (before.some p)
        | inr x ↦ inr (record {
          trip = i;
          t = c.trip-item.result;
          k = x.0;
          off = x.1;
          runs = slice_get-get_or c.args.trips.now i c.trip-item.result c.loop-trip-test.true
              ∙ ap Some (sym c.trip-item.is);
          at = sym (ap (λ (v : List Event). slice_get v x.0) same) ∙ x.2;
          may_alight = x.3;
          stop = x.4;
          time_is = x.5;
        })
      ];
      early = told.early;
    }

pub returns-clause-last : goal.returns-clause-last
returns-clause-last c p time (inl zero) = omega (arith, zero)
returns-clause-last c p time (inr a) =
    let within = slice_get_within c.args.trips.now a.trip a.t a.runs in
    let low : a.off.arrive ≤ slice_index c.loop-trip.ridden a.off.stop.0 =
    c.loop-trip.invariant.here a.trip a.k a.t a.off (omega (arith, c.loop-trip-test.false)) a.runs a.at
    a.may_alight in
    let here : a.off.arrive ≤ slice_index c.loop-trip.ridden p = rw a.stop at low in
    omega (arith, here, a.time_is)
