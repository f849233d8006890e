-- The durations of all minutes, as they are counted from the labels of those that were searched.
use Rattle.std.proofs.Common.{◌≡◌, ◌≢◌, ℕ, ◌+◌, ◌-◌, ◌<◌, ◌≤◌, inl, inr, List, length, min, slice_index, refl}
use Rattle.std.proofs.Common.{subst, sym, take, arith}
use Rattle.std.proofs.lemmas.Bool.{cases_eq, cases_lt}
use Rattle.std.proofs.lemmas.List.{get_or-take}
use Rattle.timetable.specs.declared.least.TheConstants.{NEVER}
use Rattle.timetable.specs.Networks.{IsNet}
use Rattle.timetable.specs.Least.{IsLeastOrNever}
use Rattle.timetable.specs.Journeys.{IsDuration}
use Rattle.useful_minutes.specs.Counted.{IsCounted, narrow_at}
use Rattle.useful_minutes.specs.Plan.{StandsIn}
use Rattle.useful_minutes.specs.Waits.{IsWalked}
use Rattle.useful_minutes.proofs.SearchedMinutes.{searched_whole}
use Rattle.rounds.specs.declared.query.Query.{Query}
use Rattle.rounds.specs.declared.skipped.WindowPlan.{WindowPlan}
use Rattle.rounds.specs.Arrivals.{AreToldFrom, IsTold}
use Rattle.rounds.specs.Batches.{departure_at}
use Rattle.rounds.specs.Query.{IsValidQuery}
use Rattle.rounds.specs.Skipped.{IsPlanOf}
use Rattle.rounds.specs.Window.{departure}
use Rattle.rounds.proofs.SkippedDepartures.{filled_in}

-- the bases of the departures alone are enough
pub taken : (q : Query) (width : ℕ) (found bases : List ℕ) → AreToldFrom q width found bases 0 →
    AreToldFrom q width found (take (length q.times.now) bases) 0
taken q width found bases told =
    record {
      early = λ j le l.
          let same = get_or-take (length q.times.now) bases j 0 l in
          let early = told.early j le l in
          omega (arith, same, early);
      before = λ j le l.
          let same = get_or-take (length q.times.now) bases j 0 l in
          let before = told.before j le l in
          omega (arith, same, before);
      near = λ j le l.
          let same = get_or-take (length q.times.now) bases j 0 l in
          let near = told.near j le l in
          omega (arith, same, near);
      each = λ p j there le l.
          subst (λ (x : ℕ). IsTold q 65535 x (departure_at q j) p (narrow_at width found p j))
          (sym (get_or-take (length q.times.now) bases j 0 l)) (told.each p j there le l);
    }

module _ (q : Query) (plan : WindowPlan) (ok : IsNet q.network.now) (valid : IsValidQuery q) (is : IsPlanOf q plan)
    (width : ℕ) (found bases : List ℕ) (told : AreToldFrom q width found bases 0) (p m : ℕ)
    (there : p < q.network.now.stops) (l : m < plan.window.minutes) where
  abbrev at : ℕ
  at = slice_index plan.positions.now m

  abbrev base : ℕ
  base = slice_index bases at

  abbrev label : ℕ
  label = narrow_at width found p at

  abbrev wait : ℕ
  wait = slice_index plan.waits.now m

  stands : StandsIn plan.searched.now m at wait
  stands = is.plan.each m l

  pub at_within : at < length q.times.now
  at_within = let long = is.times.count in let within = stands.within in omega (arith, long, within)

  departs : departure_at q at ≡ departure plan.window (slice_index plan.searched.now at)
  departs = is.times.each at stands.within

  is_told : IsTold q 65535 base (departure_at q at) p label
  is_told = told.each p at there (omega arith) at_within

  -- the label tells no time before the minute departs
  pub counted_since : label ≢ 65535 → departure plan.window m ≤ base + label
  counted_since reached =
      let after = is_told.after reached in
      let up = stands.no_earlier in
      omega (arith, after, up, departs)

  module _ (duration : ℕ) (counted : IsCounted base (departure plan.window m) label duration) where
    -- the least duration from the minute that stands in
    record IsFrom (next : ℕ) : Type 0 where
      least : IsLeastOrNever (IsDuration q.network.now q.origin.0 (departure_at q at) q.rides p) next
      waited : duration ≡ min (next + wait) NEVER

    from_next : (next : ℕ) × IsFrom next
    from_next = elim (cases_eq label 65535) [
      | inl never ↦
          let e = counted.never_so never in (
            NEVER,
            record {
              least = is_told.least NEVER (record { never_so = λ _. refl; counted = λ live. absurd (live never) });
              waited = omega (arith, e);
            },
          )
      | inr live ↦
          let e = counted.counted live in
          let after = is_told.after live in
          let up = stands.no_earlier in
          let waits = stands.waits in
          let fits = is_told.fits in
          let early = told.early at (omega arith) at_within in (
            duration - wait,
            record {
              least = is_told.least (duration - wait) (record {
                never_so = λ never. absurd (live never);
                counted = λ _. omega (arith, e, after, up, waits, departs);
              });
              waited = omega (arith, e, after, up, waits, fits, early, departs);
            },
          )
    ]

    -- with the walk alone it is the least
    pub counted_in : (x : ℕ) → IsWalked q.network.now q.origin.0 p duration x →
        IsLeastOrNever (IsDuration q.network.now q.origin.0 (departure plan.window m) q.rides p) x
    counted_in x walked =
        let up = stands.no_earlier in
        let waits = stands.waits in
        let next = from_next in
        let later : ℕ = departure plan.window (slice_index plan.searched.now at) in
        let waited : wait ≡ later - departure plan.window m = omega (arith, waits, up) in
        let least = subst (λ (t : ℕ). IsLeastOrNever (IsDuration q.network.now q.origin.0 t q.rides p) next.0) departs
        next.1.least in
        filled_in q.network.now q.origin.0 (departure plan.window m) later (omega (arith, up)) (is.skips m l) ok
        valid.origin (is.fits.on_axis (slice_index plan.searched.now at) (is.plan.are.within at stands.within))
        q.rides p next.0 wait duration x least waited next.1.waited walked

    -- where each minute is searched, it is the least as it is
    pub counted_whole : plan.window.minutes ≤ length q.times.now →
        IsLeastOrNever (IsDuration q.network.now q.origin.0 (departure plan.window m) q.rides p) duration
    counted_whole many =
        let long = is.times.count in
        let whole = searched_whole plan.window.minutes plan.searched.now is.plan.are (omega (arith, many, long)) in
        let within = stands.within in
        let up = stands.no_earlier in
        let minutes = is.plan.are.within at within in
        let same : slice_index plan.searched.now at ≡ m = elim (cases_lt m at) [
          | inl less ↦ let sooner = stands.first m less in let e = whole m l in absurd (omega (arith, sooner, e))
          | inr ge ↦
              elim (cases_lt at plan.window.minutes) [
                | inl lt ↦ let e = whole at lt in omega (arith, e, ge, up)
                | inr past ↦ absurd (omega (arith, ge, past, l))
              ]
        ] in
        let departs_then : departure_at q at ≡ departure plan.window m = omega (arith, departs, same) in
        subst (λ (t : ℕ). IsLeastOrNever (IsDuration q.network.now q.origin.0 t q.rides p) duration) departs_then
        (is_told.least duration (record {
          never_so = counted.never_so;
          counted = λ live. let e = counted.counted live in omega (arith, e, departs_then);
        }))
