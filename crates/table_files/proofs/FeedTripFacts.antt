-- One more row of `trips.txt`.
use Rattle.std.proofs.Common.{◌≡◌, ◌<◌, ◌∙◌, nat_le, ℕ, false, List, [], ◌∷◌, ◌++◌, length, map, Some, position, refl}
use Rattle.std.proofs.Common.{sym, ap}
use Rattle.std.proofs.lemmas.Bool.{lt-leb}
use Rattle.std.proofs.lemmas.List.{map-append}
use Rattle.std.specs.List.{list_any}
use Rattle.std.specs.Str.{bytes_eq}
use Rattle.table_records.specs.Fields.{is_empty}
use Rattle.table_files.specs.FeedTrips.{AreTrips, TripRow, checks, numbers_of, trip_ids}
use Rattle.table_records.specs.Identifiers.{number_in}
use Rattle.table_files.specs.Services.{named}
use Rattle.table_files.specs.declared.feed_trips.FeedTrips.{FeedTrips}
use Rattle.table_files.specs.declared.feed_trips.TripNumbers.{TripNumbers}
use Rattle.table_files.proofs.ServiceFacts.{named-append, values_stay_named}

pub no_fault : (routes : List (List ℕ)) (before : List TripRow) (r : TripRow) (route : ℕ) → length before < 1000000 →
    is_empty r.route ≡ false → Some route ≡ position (bytes_eq r.route) routes
    → is_empty r.service ≡ false → is_empty r.id ≡ false → list_any (bytes_eq r.id) (trip_ids before) ≡ false →
    (checks routes before r ≡ []) × (route ≡ number_in routes r.route)
no_fault routes before r route few some known served named_too new =
    let room : nat_le 1000000 (length before) ≡ false = lt-leb _ _ few in
    (rw (room, some, ← known, served, named_too, new) refl, rw (← known) refl)

-- the trips with one more row
pub trips_more : (routes known : List (List ℕ)) (a b : FeedTrips) (before : List TripRow) (r : TripRow)
    (row : TripNumbers) → AreTrips routes known a before
    → b.ids ≡ a.ids ++ r.id ∷ [] → b.services ≡ named a.services (r.service ∷ []) →
    b.numbers.items ≡ a.numbers.items ++ row ∷ []
    → row.route ≡ number_in routes r.route → row.service ≡ number_in b.services r.service →
    AreTrips routes known b (before ++ r ∷ [])
trips_more routes known a b before r row is ids services rows route number =
    let before_services : List (List ℕ) = map (λ (x : TripRow). x.service) before in
    let all : b.services ≡ named (named known before_services) (r.service ∷ []) =
    services ∙ ap (λ (l : List (List ℕ)). named l (r.service ∷ [])) is.services in
    let stay = values_stay_named (λ (x : TripRow). x.service) (λ (n : ℕ) (x : TripRow). let t : TripNumbers =
    record { route = number_in routes x.route; service = n } in t) known before r.service in
    let old : a.numbers.items ≡ map (numbers_of routes (named known before_services)) before =
    is.numbers ∙ ap (λ (l : List (List ℕ)). map (numbers_of routes l) before) is.services in
    let here : row ≡ numbers_of routes b.services r = λ k. record { route = route k; service = number k } in
    let kept : a.numbers.items ≡ map (numbers_of routes b.services) before =
    old ∙ sym stay ∙ ap (λ (l : List (List ℕ)). map (numbers_of routes l) before) (sym all) in
    record {
      ids = rw (ids, is.ids, map-append (λ (x : TripRow). x.id) before (r ∷ [])) refl;
      services = all ∙ sym (named-append known before_services (r.service ∷ []))
          ∙ ap (named known) (sym (map-append (λ (x : TripRow). x.service) before (r ∷ [])));
      numbers = rw (rows, map-append (numbers_of routes b.services) before (r ∷ [])) (λ k. kept k ++ here k ∷ []);
    }
