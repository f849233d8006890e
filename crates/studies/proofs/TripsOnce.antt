-- The trips of a feed, each run once: their number, their events, and what holds of these.
use Rattle.std.proofs.Common.{◌≡◌, ◌+◌, ◌<◌, ◌∙◌, ℕ, suc, List, [], ◌∷◌, ◌++◌, Some, refl, sym, ap, length, take}
use Rattle.std.proofs.Common.{slice_get, sum_by, All, arith}
use Rattle.std.proofs.Math.Seq.{take-suc}
use Rattle.std.proofs.lemmas.List.Elements.{All-cons, All-nil}
use Rattle.std.proofs.lemmas.List.Sums.{sum_by-cons}
use Rattle.std.proofs.lemmas.List.{length-take-le}
use Rattle.std.proofs.lemmas.Option.{slice_get_within, get_or_from_slice_get}
use Rattle.timetable.specs.declared.trips.Event.{Event}
use Rattle.timetable.specs.declared.trips.Trip.{Trip}
use Rattle.gtfs_tables.specs.declared.trip.FeedTrip.{FeedTrip}
use Rattle.studies.specs.MinuteLine.{run_of, runs_from}

runs_from-append : (n : ℕ) (ts : List FeedTrip) (t : FeedTrip) →
    runs_from n (ts ++ t ∷ []) ≡ runs_from n ts ++ run_of (n + length ts) t ∷ []
runs_from-append n [] t = let none : n ≡ n + 0 = omega arith in ap (λ (k : ℕ). run_of k t ∷ []) none
runs_from-append n (x ∷ ts) t =
    let number : n + 1 + length ts ≡ n + suc (length ts) = omega arith in
    ap (λ (l : List Trip). run_of n x ∷ l) (runs_from-append (n + 1) ts t
    ∙ ap (λ (k : ℕ). runs_from (n + 1) ts ++ run_of k t ∷ []) number)

-- one more run
pub next_run : (ts : List FeedTrip) (i : ℕ) (t : FeedTrip) (done all : List Trip) (new : Trip) →
    slice_get ts i ≡ Some t → done ≡ runs_from 0 (take i ts)
    → new ≡ run_of i t → all ≡ done ++ new ∷ [] → all ≡ runs_from 0 (take (i + 1) ts)
next_run ts i t done all new at so_far is grown =
    let lt : i < length ts = slice_get_within ts i t at in
    let step : i + 1 ≡ suc i = omega arith in
    let longer : take (i + 1) ts ≡ take i ts ++ t ∷ [] =
    ap (λ (n : ℕ). take n ts) step ∙ take-suc ts i t lt
    ∙ ap (λ (x : FeedTrip). take i ts ++ x ∷ []) (get_or_from_slice_get ts i t t at) in
    let size = length-take-le i ts (omega arith) in
    let number : 0 + length (take i ts) ≡ i = omega arith in
    grown ∙ ap (λ (l : List Trip). l ++ new ∷ []) so_far ∙ ap (λ (r : Trip). runs_from 0 (take i ts) ++ r ∷ []) is
    ∙ ap (λ (k : ℕ). runs_from 0 (take i ts) ++ run_of k t ∷ []) (sym number)
    ∙ sym (ap (runs_from 0) longer ∙ runs_from-append 0 (take i ts) t)

pub length-runs_from : (n : ℕ) (ts : List FeedTrip) → length (runs_from n ts) ≡ length ts
length-runs_from n [] = refl
length-runs_from n (t ∷ ts) = ap suc (length-runs_from (n + 1) ts)

pub events-runs_from : (n : ℕ) (ts : List FeedTrip) →
    sum_by (λ (t : Trip). length t.events) (runs_from n ts) ≡ sum_by (λ (t : FeedTrip). length t.events) ts
events-runs_from n [] = refl
events-runs_from n (t ∷ ts) =
    sum_by-cons (λ (t : Trip). length t.events) (run_of n t) (runs_from (n + 1) ts)
    ∙ ap (λ (k : ℕ). length t.events + k) (events-runs_from (n + 1) ts)
    ∙ sym (sum_by-cons (λ (t : FeedTrip). length t.events) t ts)

-- what holds of the events of each trip holds of each run
pub All-runs_from : (P : List Event → Type 0) (n : ℕ) (ts : List FeedTrip) → All (λ (t : FeedTrip). P t.events) ts →
    All (λ (t : Trip). P t.events) (runs_from n ts)
All-runs_from P n [] all = All-nil (λ (t : Trip). P t.events)
All-runs_from P n (t ∷ ts) all =
    All-cons (λ (t : Trip). P t.events) (run_of n t) (runs_from (n + 1) ts) (all 0 t (omega arith))
    (All-runs_from P (n + 1) ts (λ k d lt. all (suc k) d (omega (arith, lt))))
