-- What the wide labels of a batch represent: every arrival.
use Rattle.std.proofs.Common.{◌≡◌, ◌≢◌, ℕ, ◌+◌, ◌<◌, ◌≤◌, inl, inr, List, length, slice_index, arith}
use Rattle.std.proofs.lemmas.Bool.{cases_lt}
use Rattle.timetable.specs.declared.least.TheConstants.{NEVER}
use Rattle.timetable.specs.Networks.{IsNet}
use Rattle.timetable.specs.Least.{IsLeastOrNever}
use Rattle.timetable.specs.Journeys.{IsDuration}
use Rattle.trip_lanes.specs.Since.{IsSinceTo}
use Rattle.rounds.specs.Arrivals.{AreArrivals, IsTold}
use Rattle.rounds.specs.Batches.{departure_at}
use Rattle.rounds.specs.Query.{IsValidQuery}
use Rattle.rounds.specs.Searches.{arrival_in}
use Rattle.rounds.specs.declared.bounded.Batch.{Batch}
use Rattle.rounds.specs.declared.query.Query.{Query}
use Rattle.rounds.specs.declared.workspace.Workspace.{Workspace}
use Rattle.rounds.proofs.LabelsOfBatch.{none_late_whole}

module _ (q : Query) (ok : IsNet q.network.now) (valid : IsValidQuery q) (from : ℕ) (b : Batch (List ℕ))
    (w : Workspace (List ℕ)) (are : AreArrivals 16 NEVER (λ (row : List ℕ). row) q from b w) (l p : ℕ) (h : l < 16)
    (there : p < q.network.now.stops) where
  -- wide labels count from 0
  no_base : b.base ≡ 0
  no_base = are.whole (omega arith)

  -- and tell all arrivals
  all_told : from + l < length q.times.now →
      IsTold q NEVER b.base (departure_at q (from + l)) p (arrival_in (λ (row : List ℕ). row) w l p)
  all_told within =
      are.told l p h within there (λ _. none_late_whole q ok valid.origin NEVER b.base (departure_at q (from + l)) p
      (valid.times.on_axis (from + l) within)
      (omega arith))

  pub all_fit : arrival_in (λ (row : List ℕ). row) w l p ≤ NEVER
  all_fit = elim (cases_lt (from + l) (length q.times.now)) [
    | inl lt ↦ (all_told lt).fits
    | inr ge ↦ let e = are.unused l p h ge there in omega (arith, e)
  ]

  pub all_since : arrival_in (λ (row : List ℕ). row) w l p ≢ NEVER →
      slice_index b.departures l ≤ arrival_in (λ (row : List ℕ). row) w l p
  all_since reached = elim (cases_lt (from + l) (length q.times.now)) [
    | inl lt ↦
        let t = (are.departures l h).used lt in
        let after = (all_told lt).after reached in
        omega (arith, t, after, no_base)
    | inr ge ↦ absurd (reached (are.unused l p h ge there))
  ]

  -- so what counts from the departure is the least duration
  pub all_least : from + l < length q.times.now → (d : ℕ) →
      IsSinceTo NEVER (slice_index b.departures l) (arrival_in (λ (row : List ℕ). row) w l p) d →
      IsLeastOrNever (IsDuration q.network.now q.origin.0 (departure_at q (from + l)) q.rides p) d
  all_least within d since =
      let t = (are.departures l h).used within in
      (all_told within).least d (record {
        never_so = since.never_so;
        counted = λ reached. let e = since.since reached in omega (arith, e, t, no_base);
      })
