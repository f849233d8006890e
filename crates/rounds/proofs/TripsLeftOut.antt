-- Trips that a round may leave out.
use Rattle.std.proofs.Common.{◌≡◌, ℕ, ◌-◌, ◌≤◌, ◌∙◌, ap, inl, inr, slice_index, slice_get, get_or, Some, IsTrue, refl}
use Rattle.std.proofs.Common.{sym, subst, arith}
use Rattle.std.proofs.lemmas.Bool.{cases_lt}
use Rattle.std.proofs.lemmas.Option.{slice_get_within, slice_get-get_or}
use Rattle.timetable.specs.declared.trips.Event.{Event}
use Rattle.timetable.specs.Journeys.{IsRide}
use Rattle.trip_lanes.specs.Cut.{cut}
use Rattle.rounds.specs.Cut.{cut_event}
use Rattle.rounds.specs.Laws.{FallenStopsSuffice, FallenRoundsAreFull, EarlierTripsServe, DeadLanesRideNothing}
use Rattle.timetable.proofs.MappedLists.{map_got}
use Rattle.useful_minutes.proofs.LineEvents.{rises}

pub fallen_suffice : FallenStopsSuffice
fallen_suffice t before ready ride none still p x l c =
    let low = still c.j c.on c.ride.from in
    none p x l (record {
      j = c.j;
      i = c.i;
      on = c.on;
      off = c.off;
      ride = c.ride;
      in_time = omega (arith, low, c.in_time);
      stop = c.stop;
      time = c.time;
    })

pub fallen_full : FallenRoundsAreFull
fallen_full trips before ready old new none h =
    record {
      same_length = h.same_length;
      label = λ p l.
          let e = h.label p l in
          record {
            holds = elim e.holds [
              | inl s ↦ inl s
              | inr c ↦
                  inr (record { trip = c.trip; t = c.t; runs = c.runs; carries = c.carries })
            ];
            least = λ m o. elim o [
              | inl s ↦ e.least m (inl s)
              | inr a ↦
                  let c = a.carries in
                  elim (cases_lt (slice_index ready c.on.stop.0) (slice_index before c.on.stop.0)) [
                    | inl fell ↦
                        e.least m (inr (record {
                          trip = a.trip;
                          stop = c.on.stop.0;
                          fell = fell;
                          serves = (c.j, c.on, (a.t, a.runs, c.ride.from), refl);
                          t = a.t;
                          runs = a.runs;
                          carries = c;
                        }))
                    | inr still ↦
                        let low = e.least (slice_index old p) (inl refl) in
                        let was = none p m l (record {
                          trip = a.trip;
                          t = a.t;
                          runs = a.runs;
                          carries = record {
                            j = c.j;
                            i = c.i;
                            on = c.on;
                            off = c.off;
                            ride = c.ride;
                            in_time = omega (arith, c.in_time);
                            stop = c.stop;
                            time = c.time;
                          };
                        }) in
                        omega arith
                  ]
            ];
          };
    }

pub earlier_serve : EarlierTripsServe
earlier_serve u t ready p end e behind c from soon =
    let w = slice_get_within t.events c.i c.off c.ride.to in
    let off = get_or u.events c.i c.off in
    let to : slice_get u.events c.i ≡ Some off =
    slice_get-get_or u.events c.i c.off (omega (arith, behind.same_length)) in
    let on_pair = behind.events c.j e c.on from c.ride.from in
    let off_pair = behind.events c.i off c.off to c.ride.to in
    let ride : IsRide u c.j c.i e off = record {
      from = from;
      to = to;
      later = c.ride.later;
      may_board = subst IsTrue (sym on_pair.board) c.ride.may_board;
      may_alight = subst IsTrue (sym off_pair.alight) c.ride.may_alight;
    } in (
      off.arrive,
      record {
        j = c.j;
        i = c.i;
        on = e;
        off = off;
        ride = ride;
        in_time = soon;
        stop = off_pair.stop ∙ c.stop;
        time = refl;
      },
      omega (arith, off_pair.arrive, c.time),
    )

pub dead_ride_nothing : (never : ℕ) → DeadLanesRideNothing never
dead_ride_nothing never n base trip t ready ok runs dead p end c =
    let on = map_got (cut_event base never) t.events c.j c.on c.ride.from in
    let off = map_got (cut_event base never) t.events c.i c.off c.ride.to in
    let label = dead c.j on.0 on.1 in
    let stop : on.0.stop.0 ≡ c.on.stop.0 = ap (λ (e : Event). e.stop.0) on.2 in
    let late : never ≤ c.on.depart = subst (λ (s : ℕ). slice_index ready s ≡ never → never ≤ c.on.depart) (sym stop)
    (λ l. omega (arith, l, c.in_time)) label in
    let rise = rises n ok trip t runs (c.i - c.j - 1) c.j c.i on.0 off.0 (omega (arith, c.ride.later)) on.1 off.1 in
    let departs : cut base never on.0.depart ≡ c.on.depart = ap (λ (e : Event). e.depart) on.2 in
    let arrives : cut base never off.0.arrive ≡ c.off.arrive = ap (λ (e : Event). e.arrive) off.2 in
    omega (arith, late, rise, departs, arrives, c.time)
