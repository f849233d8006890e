use Rattle.std.proofs.Common.{◌≡◌, ◌∙◌, ◌++◌, ◌∷◌, [], ap, arith, FitsSigned, inl, inr, length, of_z, rules, sym, to_z}
use Rattle.std.proofs.Common.{true, w64, ℤ}
use Rattle.std.specs.List.{list_all}
use Rattle.std.proofs.lemmas.Int.{to_z-of_z}
use Rattle.std.proofs.lemmas.Result.{err_from_is_err_and, on_ok_weaker}
use Rattle.std.proofs.lemmas.Bool.{and_right}
use Rattle.service_days.specs.Instances.{instance_events}
use Rattle.scenarios.specs.Edits.{keeps_of}
use Rattle.scenarios.specs.Networks.{is_event_on_axis, moved_trip, sum_of}
use Rattle.scenarios.proofs.KeptRuns.{as_many, kept, stays_by_events}
use Rattle.scenarios.proofs.networks.add_run.Goals as goal

pub returns-in_err-moved_trip-clause-fault : goal.returns-in_err-moved_trip-clause-fault
returns-in_err-moved_trip-clause-fault c =
    let p = err_from_is_err_and c.from_residual.result c.from_residual.ensures.1 in
    let t = c.trip-trip.result.now in
    let keeps : keeps_of c.args.scenario.now.edits c.args.run.trip t.route ≡ true =
    sym (c.keeps.ensures t c.trip-trip.ensures) ∙ c.if-not-keeps.false in
    let fits : FitsSigned w64 c.seconds_of-seconds.result = search rules in
    let same : to_z w64 (of_z w64 c.seconds_of-seconds.result) ≡ sum_of c.args.scenario.now c.args.run =
    to_z-of_z w64 c.seconds_of-seconds.result fits ∙ c.seconds_of-seconds.ensures.value in
    let events = stays_by_events c.args.scenario.now c.args.run _ t c.trip-trip.ensures keeps in
    rw (p.1, p.2) (elim c.in_err-moved_trip.ensures.fault [
      | inl m ↦ inl m
      | inr l ↦ inr (
        l.0,
        and_right _ _ (events
            ∙ ap (λ (z : ℤ). list_all (is_event_on_axis z) (instance_events t)) (sym same) ∙ l.1),
      )
    ])

pub push-requires-clause-events : goal.push-requires-clause-events
push-requires-clause-events c =
    let made = ap (λ x. length x.events) c.in_ok-moved_trip.ensures.good.1
    ∙ as_many c.trip-trip.result.now c.args.run.trip _ in
    let room = c.has_room.ensures.0 c.if-not-has_room.false in
    let same = ap length c.as_slice.ensures in
    omega (arith, room.1)

pub returns-clause-good : goal.returns-clause-good
returns-clause-good c =
    let t = c.trip-trip.result.now in
    let keeps : keeps_of c.args.scenario.now.edits c.args.run.trip t.route ≡ true =
    sym (c.keeps.ensures t c.trip-trip.ensures) ∙ c.if-not-keeps.false in
    let fits : FitsSigned w64 c.seconds_of-seconds.result = search rules in
    let same : to_z w64 (of_z w64 c.seconds_of-seconds.result) ≡ sum_of c.args.scenario.now c.args.run =
    to_z-of_z w64 c.seconds_of-seconds.result fits ∙ c.seconds_of-seconds.ensures.value in
    let events = stays_by_events c.args.scenario.now c.args.run _ t c.trip-trip.ensures keeps in
    let trip = kept c.args.scenario.now c.args.run _ t c.trip-trip.ensures keeps in
    on_ok_weaker c.push.result
    (λ pushed. (
      events ∙ ap (λ (z : ℤ). list_all (is_event_on_axis z) (instance_events t)) (sym same)
          ∙ c.in_ok-moved_trip.ensures.good.0,
      pushed ∙ ap (λ x. c.args.trips.now ++ x ∷ []) (c.in_ok-moved_trip.ensures.good.1
          ∙ ap (λ (z : ℤ). moved_trip t c.args.run.trip z) same) ∙ ap (λ l. c.args.trips.now ++ l) (sym trip),
    ))
    c.push.ensures.good
