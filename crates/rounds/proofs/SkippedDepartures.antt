-- A departure finds what a later one does that misses nothing of it, or a walk alone.
use Rattle.std.proofs.Common.{◌≡◌, ◌≢◌, ℕ, ◌+◌, ◌-◌, ◌<◌, ◌≤◌, ◌⊎◌, ◌↔◌, inl, inr, List, [], ◌∷◌, min, refl, sym}
use Rattle.std.proofs.Common.{◌∙◌, ap, subst, slice_get, arith}
use Rattle.std.proofs.lemmas.Bool.{cases_eq, cases_lt}
use Rattle.std.proofs.lemmas.Option.{same_Some, slice_get_within}
use Rattle.timetable.specs.declared.trips.Trip.{Trip}
use Rattle.timetable.specs.declared.limits.TheConstants.{END_OF_AXIS, MOST_FOOT_SECONDS}
use Rattle.timetable.specs.declared.least.TheConstants.{NEVER}
use Rattle.timetable.specs.Footpaths.{IsFoot}
use Rattle.timetable.specs.Least.{IsLeastOrNever}
use Rattle.timetable.specs.Networks.{Net, IsNet}
use Rattle.timetable.specs.Journeys.{Whereabouts, Leg, Ride, Walk, Rides, Journey, EndsInNoWalk, ready_at, rides}
use Rattle.timetable.specs.Journeys.{IsReached, IsDuration}
use Rattle.useful_minutes.specs.Boarding.{FirstRide, IsNear, MissesNothing}
use Rattle.useful_minutes.specs.Waits.{IsWalked}
use Rattle.useful_minutes.proofs.SearchedMinutes.{catches_sooner}
use Rattle.rounds.specs.Useful.{IsReachedBy, IsReachedByRide, IsRiddenBy, IsWalkedBy, IsLaterBy}
use Rattle.rounds.specs.Useful.{SkippedDeparturesEndAlike, SkippedDurationsFollow}
use Rattle.rounds.proofs.EveryJourney.{at_once, not_before, not_early}
use Rattle.rounds.proofs.RoundsReach.{in_bounds}

-- who walks alone from a start gets there
pub on_foot : (n : Net) (o : Whereabouts) (p seconds : ℕ) → IsNear n o.stop p seconds →
    IsReached n o 0 p (o.time + seconds)
on_foot n o p seconds near = elim near [
  | inl stays ↦
      let time : o.time + seconds ≡ o.time = omega (arith, stays.1) in
      record {
        legs = [];
        journey = ap (λ (s : ℕ). record { stop = s; time = o.time + seconds }) stays.0
            ∙ ap (λ (x : ℕ). record { stop = o.stop; time = x }) time;
        few = omega arith;
      }
  | inr foot ↦
      record {
        legs = Walk ∷ [];
        journey = (o, refl, tt, record { seconds = seconds; foot = foot; there = refl });
        few = omega arith;
      }
]

-- a journey from another start that ends in the same place at the same time, by no more rides, and in a like leg
pub record SameEnd (n : Net) (other : Whereabouts) (legs : List Leg) (b : Whereabouts) : Type 0 where
  pub others : List Leg
  pub journey : Journey n other others b
  pub few : rides others ≤ rides legs
  pub some : 0 < rides others
  pub ready : (a : Whereabouts) → ready_at n others a ≡ ready_at n legs a
  pub no_walk : EndsInNoWalk legs → EndsInNoWalk others

-- on foot alone one is there as soon, and wherever one walks on from there
pub record SoonOnFoot (n : Net) (o : Whereabouts) (legs : List Leg) (b : Whereabouts) : Type 0 where
  pub seconds : ℕ
  pub near : IsNear n o.stop b.stop seconds
  pub in_time : o.time + seconds ≤ b.time
  pub onward : EndsInNoWalk legs → (q walk : ℕ) → IsFoot n.feet.walks b.stop q walk →
      (s : ℕ) × IsNear n o.stop q s × (o.time + s ≤ b.time + walk)

module _ (n : Net) (origin one two : ℕ) (all : MissesNothing n origin one two) where
  abbrev o : Whereabouts
  o = record { stop = origin; time = one }

  abbrev other : Whereabouts
  other = record { stop = origin; time = two }

  -- a first ride, whose trip the other boards before it ends; or where it ends one is as soon on foot
  first_ride : (trip j i : ℕ) (before : List Leg) (a b : Whereabouts) → SoonOnFoot n o before a →
      Rides n.trips trip j i a (ready_at n before a) b →
      SoonOnFoot n o (Ride trip j i ∷ before) b ⊎ SameEnd n other (Ride trip j i ∷ before) b
  first_ride trip j i before a b foot r =
      let to = slice_get_within r.t.events i r.off r.ride.to in
      let late = not_early n o before a in
      let walked = foot.in_time in
      let c : FirstRide n origin one trip j i =
      record {
        on = record {
          t = r.t;
          on = r.on;
          seconds = foot.seconds;
          runs = r.runs;
          here = r.ride.from;
          rides_on = omega (arith, to, r.ride.later);
          may_board = r.ride.may_board;
          near = subst (λ (p : ℕ). IsNear n origin p foot.seconds) r.here foot.near;
          in_time = omega (arith, walked, late, r.in_time);
        };
        off = r.off;
        later = r.ride.later;
        to = r.ride.to;
        may_alight = r.ride.may_alight;
      } in
      elim (all trip j i c) [
        | inr soon ↦ inl (rw r.there (record {
          seconds = soon.seconds;
          near = soon.near;
          in_time = soon.in_time;
          onward = λ e. soon.onward;
        }))
        | inl by ↦
            let d = by.2 in
            let same : r.t ≡ d.t = same_Some r.t d.t (sym r.runs ∙ d.runs) in
            let start : Whereabouts = record { stop = d.on.stop.0; time = two + d.seconds } in
            let walk = on_foot n other d.on.stop.0 d.seconds d.near in
            let few = walk.few in
            let then = at_once n other walk.legs start (omega (arith, few)) in
            let in_time = d.in_time in
            inr (record {
              others = Ride trip by.0 i ∷ walk.legs;
              journey = (
                start,
                walk.journey,
                record {
                  t = d.t;
                  on = d.on;
                  off = r.off;
                  runs = d.runs;
                  ride = record {
                    from = d.here;
                    to = ap (λ (t : Trip). slice_get t.events i) (sym same) ∙ r.ride.to;
                    later = by.1;
                    may_board = d.may_board;
                    may_alight = r.ride.may_alight;
                  };
                  here = refl;
                  in_time = omega (arith, then, in_time);
                  there = r.there;
                },
              );
              few = omega (arith, few);
              some = omega arith;
              ready = λ x. refl;
              no_walk = λ e. e;
            })
      ]

  -- so each journey has one from there that ends alike, or on foot alone one is there as soon
  pub same_ends : (legs : List Leg) (b : Whereabouts) → Journey n o legs b →
      SoonOnFoot n o legs b ⊎ SameEnd n other legs b
  same_ends [] b j = inl (rw j (record {
    seconds = 0;
    near = inl (refl, refl);
    in_time = omega arith;
    onward = λ e q walk foot. (walk, inr foot, omega arith);
  }))
  same_ends (Ride trip j i ∷ before) b (a, h, r) = elim (same_ends before a h) [
    | inl foot ↦ first_ride trip j i before a b foot r
    | inr e ↦
        let ready = e.ready a in
        let few = e.few in
        inr (record {
          others = Ride trip j i ∷ e.others;
          journey = (
            a,
            e.journey,
            record {
              t = r.t;
              on = r.on;
              off = r.off;
              runs = r.runs;
              ride = r.ride;
              here = r.here;
              in_time = omega (arith, ready, r.in_time);
              there = r.there;
            },
          );
          few = omega (arith, few);
          some = omega arith;
          ready = λ x. refl;
          no_walk = λ w. w;
        })
  ]
  same_ends (Walk ∷ before) b (a, h, no_walk, w) = elim (same_ends before a h) [
    | inl foot ↦
        let on = foot.onward no_walk b.stop w.seconds w.foot in
        inl (record {
          seconds = on.0;
          near = on.1;
          in_time = omega (arith, on.2, w.there);
          onward = λ e. absurd e;
        })
    | inr e ↦ inr (record {
      others = Walk ∷ e.others;
      journey = (a, e.journey, e.no_walk no_walk, w);
      few = e.few;
      some = e.some;
      ready = λ x. refl;
      no_walk = λ v. v;
    })
  ]

module _ (n : Net) (origin sooner later : ℕ) (le : sooner ≤ later) (none : MissesNothing n origin sooner later) where
  abbrev first : Whereabouts
  first = record { stop = origin; time = sooner }

  abbrev last : Whereabouts
  last = record { stop = origin; time = later }

  sooner_misses_nothing : MissesNothing n origin later sooner
  sooner_misses_nothing trip j i r = inl (j, r.later, catches_sooner n origin sooner later trip j le r.on)

  -- who walks alone gets there
  pub walked_alone : (k p seconds : ℕ) → IsNear n origin p seconds → IsReached n first k p (sooner + seconds)
  walked_alone k p seconds near =
      let r = on_foot n first p seconds near in
      let few = r.few in
      record { legs = r.legs; journey = r.journey; few = omega (arith, few) }

  -- a journey from the sooner departure: one is there as soon by a walk alone, or by a ride from the later one
  pub from_sooner : (k p time : ℕ) → IsReached n first k p time →
      IsWalkedBy n first p time ⊎ IsReachedByRide n last k p time
  from_sooner k p time r = elim (same_ends n origin sooner later none r.legs (record { stop = p; time = time })
      r.journey) [
        | inl foot ↦ inl (foot.seconds, foot.near, foot.in_time)
        | inr e ↦
            let less = e.few in
            let few = r.few in
            inr (record { legs = e.others; journey = e.journey; few = omega (arith, less, few); some = e.some })
      ]

  -- a journey from the later departure: one is there as soon by a walk alone, or by a journey from the sooner one
  from_later : (k p time : ℕ) → IsReached n last k p time → IsWalkedBy n last p time ⊎ IsReached n first k p time
  from_later k p time r = elim (same_ends n origin later sooner sooner_misses_nothing r.legs
      (record { stop = p; time = time }) r.journey) [
        | inl foot ↦ inl (foot.seconds, foot.near, foot.in_time)
        | inr e ↦
            let less = e.few in
            let few = r.few in
            inr (record { legs = e.others; journey = e.journey; few = omega (arith, less, few) })
      ]

  pub end_alike : (k p time : ℕ) → IsReachedBy n first k p time ↔ (IsWalkedBy n first p time
      ⊎ IsRiddenBy n last k p time)
  end_alike k p time = (
    λ r. elim (from_sooner k p r.0 r.2) [
      | inl w ↦ let early = r.1 in inl (w.0, w.1, omega (arith, w.2, early))
      | inr ride ↦ inr (r.0, r.1, ride)
    ],
    λ e. elim e [
      | inl w ↦ (sooner + w.0, w.2, walked_alone k p w.0 w.1)
      | inr r ↦
          let ride = r.2 in
          let legs : IsReached n last k p r.0 =
          record { legs = ride.legs; journey = ride.journey; few = ride.few } in
          let early = r.1 in
          elim (from_later k p r.0 legs) [
            | inl w ↦ (sooner + w.0, omega (arith, w.2, early, le), walked_alone k p w.0 w.1)
            | inr j ↦ (r.0, early, j)
          ]
    ],
  )

  module _ (ok : IsNet n) (there : origin < n.stops) (axis : later < END_OF_AXIS) (k p next waited : ℕ)
      (least : IsLeastOrNever (IsDuration n origin later k p) next) (late : IsLaterBy (later - sooner) next waited)
    where
      -- no duration is as great as never
      below_never : (d : ℕ) → IsDuration n origin sooner k p d → d < NEVER
      below_never d r =
          let b = in_bounds n ok first there (omega (arith, le, axis)) r.legs
          (record { stop = p; time = sooner + d }) r.journey in
          let soon : sooner + d < END_OF_AXIS + MOST_FOOT_SECONDS = b.1 in
          omega (arith, soon)

      -- a journey with a ride takes no less than the later departure's duration and the wait
      by_ride : (d : ℕ) → IsReachedByRide n last k p (sooner + d) → waited ≤ d
      by_ride d ride =
          let legs : IsReached n last k p (sooner + d) =
          record { legs = ride.legs; journey = ride.journey; few = ride.few } in
          let after : later ≤ sooner + d = not_before n ok last ride.legs (record { stop = p; time = sooner + d })
          ride.journey in
          let same : sooner + d ≡ later + (sooner + d - later) = omega (arith, after) in
          let lasts : IsDuration n origin later k p (sooner + d - later) =
          subst (IsReached n last k p) same legs in
          elim (cases_eq next NEVER) [
            | inl never ↦ absurd (least.none never (sooner + d - later) lasts)
            | inr reached ↦
                let low = least.least (sooner + d - later) lasts in
                let e = late.later reached in
                omega (arith, low, e, after, le)
          ]

  module _ (ok : IsNet n) (there : origin < n.stops) (axis : later < END_OF_AXIS) (k p next waited alone : ℕ)
      (least : IsLeastOrNever (IsDuration n origin later k p) next) (late : IsLaterBy (later - sooner) next waited)
      (walk : IsLeastOrNever (IsNear n origin p) alone) where
    no_less : (d : ℕ) → IsDuration n origin sooner k p d → min alone waited ≤ d
    no_less d r = elim (from_sooner k p (sooner + d) r) [
      | inl w ↦ let low = walk.least w.0 w.1 in omega (arith, low, w.2)
      | inr ride ↦ let low = by_ride ok there axis k p next waited least late d ride in omega (arith, low)
    ]

    pub follows : IsLeastOrNever (IsDuration n origin sooner k p) (min alone waited)
    follows =
        record {
          holds = λ some. elim (cases_lt waited alone) [
            | inl soon ↦
                let reached : next ≢ NEVER = λ never. (let e = late.never_so never in some (omega (arith, e, soon))) in
                let e = late.later reached in
                elim (from_later k p (later + next) (least.holds reached)) [
                  | inl w ↦ let low = walk.least w.0 w.1 in absurd (omega (arith, low, w.2, e, soon))
                  | inr r ↦
                      let same : later + next ≡ sooner + min alone waited = omega (arith, e, soon, le) in
                      subst (IsReached n first k p) same r
                ]
            | inr on_foot ↦
                let same : alone ≡ min alone waited = omega (arith, on_foot) in
                subst (λ (d : ℕ). IsReached n first k p (sooner + d)) same
                (walked_alone k p alone (walk.holds (λ never. some (omega (arith, never, on_foot)))))
          ];
          least = no_less;
          none = λ never d r. let low = no_less d r in let high =
              below_never ok there axis k p next waited least late d r in omega (arith, never, low, high);
        }

  -- the duration of the later departure, the wait until then and the walks, as they are filled in
  module _ (ok : IsNet n) (there : origin < n.stops) (axis : later < END_OF_AXIS) (k p next wait label x : ℕ)
      (least : IsLeastOrNever (IsDuration n origin later k p) next) (wait_is : wait ≡ later - sooner)
      (label_is : label ≡ min (next + wait) NEVER) (walked : IsWalked n origin p label x) where
    soon : next ≢ NEVER → label ≡ next + (later - sooner)
    soon reached =
        let r = least.holds reached in
        let b = in_bounds n ok last there axis r.legs (record { stop = p; time = later + next }) r.journey in
        let high : later + next < END_OF_AXIS + MOST_FOOT_SECONDS = b.1 in
        omega (arith, high, wait_is, label_is)

    late : IsLaterBy (later - sooner) next label
    late = record { never_so = λ never. omega (arith, never, label_is); later = soon }

    lower : (d : ℕ) → IsDuration n origin sooner k p d → x ≤ d
    lower d r = elim (from_sooner k p (sooner + d) r) [
      | inl w ↦ let low = walked.walks w.0 w.1 in omega (arith, low, w.2)
      | inr ride ↦
          let low = by_ride ok there axis k p next label least late d ride in
          let falls = walked.falls in
          omega (arith, low, falls)
    ]

    pub filled_in : IsLeastOrNever (IsDuration n origin sooner k p) x
    filled_in =
        record {
          holds = λ some. elim walked.some [
            | inl same ↦
                let reached : next ≢ NEVER = λ never. (let e = late.never_so never in some (omega (arith, e, same))) in
                let e = soon reached in
                elim (from_later k p (later + next) (least.holds reached)) [
                  | inl w ↦
                      let low = walked.walks w.0 w.1 in
                      let here : sooner + w.0 ≡ sooner + x = omega (arith, low, w.2, e, same) in
                      subst (IsReached n first k p) here (walked_alone k p w.0 w.1)
                  | inr r ↦
                      let here : later + next ≡ sooner + x = omega (arith, e, same, le) in
                      subst (IsReached n first k p) here r
                ]
            | inr near ↦ walked_alone k p x near
          ];
          least = lower;
          none = λ never d r. let low = lower d r in
              let high = below_never ok there axis k p next label least late d r in
              omega (arith, never, low, high);
        }

pub all_end_alike : SkippedDeparturesEndAlike
all_end_alike n origin sooner later k p time le none = end_alike n origin sooner later le none k p time

pub all_follow : SkippedDurationsFollow
all_follow n origin sooner later k p next waited alone ok there axis le none least late walk =
    follows n origin sooner later le none ok there axis k p next waited alone least late walk
