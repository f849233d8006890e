-- Runs that are too many for a network, or one of which leaves the axis.
use Rattle.std.proofs.Common.{◌≡◌, ◌∙◌, ◌<◌, ◌≤◌, ◌+◌, ◌&&◌, ◌++◌, ℕ, false, List, [], ◌∷◌, length, take, drop, get_or}
use Rattle.std.proofs.Common.{nat_le, ap, sym, inl, inr, arith, length-append}
use Rattle.std.specs.Prelude.{slice_get, sum_by}
use Rattle.std.specs.List.{flat_map}
use Rattle.std.proofs.lemmas.Bool.Decides.{nat_tests}
use Rattle.std.proofs.lemmas.Grind.{flat_map-append}
use Rattle.std.proofs.lemmas.List.{append-nil, take-append-drop, take_more}
use Rattle.std.proofs.lemmas.List.Folds.{list_all_at}
use Rattle.std.proofs.lemmas.List.Sums.{sum_by-append}
use Rattle.std.proofs.lemmas.Bool.{and_left, and_right, and_cases}
use Rattle.timetable.specs.declared.limits.TheConstants.{MOST_EVENTS, MOST_TRIPS}
use Rattle.timetable.specs.declared.trips.Trip.{Trip}
use Rattle.gtfs_tables.specs.Feed.{FeedData}
use Rattle.service_days.specs.declared.run.Run.{Run}
use Rattle.scenarios.specs.Networks.{are_few, fits, kept_trip, stays, trips_of}
use Rattle.scenarios.specs.ScenarioData.{ScenarioData}

past_more : (m n k : ℕ) → n ≤ k → nat_le n m ≡ false → nat_le k m ≡ false
past_more m n k le h = let more : m < n = grind (arith, nat_tests) in grind (arith, nat_tests)

-- what is too much stays too much
few_more : (xs ys : List Trip) → are_few xs ≡ false → are_few (xs ++ ys) ≡ false
few_more xs ys h = elim (and_cases (nat_le (length xs) MOST_TRIPS)
    (nat_le (sum_by (λ t. length t.events) xs) MOST_EVENTS) h) [
      | inl l ↦ and_left _ _ (past_more MOST_TRIPS (length xs) (length (xs ++ ys)) (omega (
        arith,
        length-append xs ys,
      )) l)
      | inr r ↦ and_right _ _ (past_more MOST_EVENTS (sum_by (λ t. length t.events) xs)
          (sum_by (λ t. length t.events) (xs ++ ys))
          (omega (arith, sum_by-append (λ (t : Trip). length t.events) xs ys)) r)
    ]

-- the trips of the runs up to one, and of the rest
split : (f : Run → List Trip) (runs : List Run) (i : ℕ) (d : Run) → i < length runs →
    (flat_map f (take i runs) ++ f (get_or runs i d)) ++ flat_map f (drop (i + 1) runs) ≡ flat_map f runs
split f runs i d lt =
    let here = flat_map-append f (take i runs) (get_or runs i d ∷ [])
    ∙ ap (λ l. flat_map f (take i runs) ++ l) (append-nil (f (get_or runs i d))) in
    ap (λ l. l ++ flat_map f (drop (i + 1) runs)) (sym here ∙ ap (flat_map f) (sym (take_more runs i d lt)))
    ∙ sym (flat_map-append f (take (i + 1) runs) (drop (i + 1) runs)) ∙ ap (flat_map f) (take-append-drop (i + 1) runs)

pub too_large : (feed : FeedData) (scenario : ScenarioData) (runs : List Run) (i : ℕ) (d : Run) → i < length runs →
    (made : List Trip) → made ≡ trips_of feed scenario (take i runs)
    → (are_few (made ++ kept_trip scenario (get_or runs i d) (slice_get feed.trips (get_or runs i d).trip)) && stays
    scenario (get_or runs i d) (slice_get feed.trips (get_or runs i d).trip)) ≡ false
    → fits feed scenario runs ≡ false
too_large feed scenario runs i d lt made so h =
    let run = get_or runs i d in
    let f : Run → List Trip = λ run. kept_trip scenario run (slice_get feed.trips run.trip) in
    elim (and_cases (are_few (made ++ f run)) (stays scenario run (slice_get feed.trips run.trip)) h) [
      | inl l ↦ and_left _ _ (ap are_few (sym (split f runs i d lt))
          ∙ few_more (flat_map f (take i runs) ++ f run) (flat_map f (drop (i + 1) runs))
          (ap (λ m. are_few (m ++ f run)) (sym so) ∙ l))
      | inr r ↦ and_right _ _ (list_all_at (λ run. stays scenario run (slice_get feed.trips run.trip)) runs i d lt r)
    ]
