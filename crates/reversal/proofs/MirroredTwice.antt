-- Mirrored twice, a network is the original network.
use Rattle.std.proofs.Common.{◌≡◌, ℕ, ◌-◌, ◌<◌, ◌≤◌, List, [], ◌∷◌, ◌++◌, length, map, get_or, All, refl, sym}
use Rattle.std.proofs.Common.{◌∙◌, ap, ap₂, subst, arith}
use Rattle.std.specs.Prelude.{reverse}
use Rattle.std.proofs.lemmas.List.{get_or-reverse, length-reverse, map-append, reverse-append, reverse-reverse}
use Rattle.std.proofs.lemmas.List.Elements.{All-head, All-map, All-tail}
use Rattle.timetable.specs.declared.trips.Event.{Event}
use Rattle.timetable.specs.declared.trips.Trip.{Trip}
use Rattle.timetable.specs.Networks.{Net}
use Rattle.reversal.specs.Mirror.{IsHorizon, IsMirrored, mirrored_event, mirrored_trip}

map-reverse : {X Y : Type 0} (f : X → Y) (xs : List X) → map f (reverse xs) ≡ reverse (map f xs)
map-reverse f [] = refl
map-reverse f (x ∷ xs) =
    ap (map f) (reverse-append (x ∷ []) xs)
    ∙ (map-append f (reverse xs) (x ∷ []) ∙ (ap (λ l. l ++ f x ∷ []) (map-reverse f xs)
    ∙ sym (reverse-append (f x ∷ []) (map f xs))))

-- mapping a function twice restores a list if the function restores each element
map_twice : {X : Type 0} (f : X → X) (xs : List X) → All (λ x. f (f x) ≡ x) xs → map f (map f xs) ≡ xs
map_twice f [] all = refl
map_twice f (x ∷ xs) all =
    ap₂ (λ y ys. y ∷ ys) (All-head (λ y. f (f y) ≡ y) x xs all)
    (map_twice f xs (All-tail (λ y. f (f y) ≡ y) x xs all))

-- a property of all elements holds for those of the reversed list
pub All-reverse : {X : Type 0} (P : X → Type 0) (xs : List X) → All P xs → All P (reverse xs)
All-reverse P xs all k d l =
    let within : k < length xs = omega (arith, l, length-reverse xs) in
    subst P (sym (get_or-reverse xs k d within)) (all (length xs - 1 - k) d (omega arith))

module _ (h : ℕ) where
  event_twice : (e : Event) → e.arrive ≤ h → e.depart ≤ h → mirrored_event h (mirrored_event h e) ≡ e
  event_twice e low lower =
      let arrives : h - (h - e.arrive) ≡ e.arrive = omega (arith, low) in
      let departs : h - (h - e.depart) ≡ e.depart = omega (arith, lower) in
      ap₂ (λ (s t : ℕ). record { stop = e.stop; arrive = s; depart = t; board = e.board; alight = e.alight })
      arrives departs

  trip_twice : (t : Trip) → All (λ e. (e.arrive ≤ h) × (e.depart ≤ h)) t.events →
      mirrored_trip h (mirrored_trip h t) ≡ t
  trip_twice t ends =
      let f = mirrored_event h in
      let same : map f (map f t.events) ≡ t.events = map_twice f t.events (λ k d l.
      let low = ends k d l in
      event_twice (get_or t.events k d) low.0 low.1) in
      let events : reverse (map f (reverse (map f t.events))) ≡ t.events =
      ap reverse (map-reverse f (map f t.events)) ∙ (reverse-reverse (map f (map f t.events)) ∙ same) in
      ap (λ (es : List Event). record { route = t.route; name = t.name; events = es }) events

  trips_twice : (trips : List Trip) → IsHorizon h trips → map (mirrored_trip h) (map (mirrored_trip h) trips) ≡ trips
  trips_twice trips ends = map_twice (mirrored_trip h) trips (λ k d l. trip_twice (get_or trips k d) (ends k d l))

  -- no mirrored event is later than the horizon
  mirrored_ends : (trips : List Trip) → IsHorizon h (map (mirrored_trip h) trips)
  mirrored_ends trips =
      All-map (λ (t : Trip). All (λ (e : Event). (e.arrive ≤ h) × (e.depart ≤ h)) t.events) (mirrored_trip h) trips
      (λ k d l. All-reverse (λ (e : Event). (e.arrive ≤ h) × (e.depart ≤ h))
      (map (mirrored_event h) (get_or trips k d).events)
      (All-map (λ (e : Event). (e.arrive ≤ h) × (e.depart ≤ h)) (mirrored_event h) (get_or trips k d).events
      (λ i x m. (omega arith, omega arith))))

  pub ends_too : (n m : Net) → IsMirrored h n m → IsHorizon h m.trips
  ends_too n m is = subst (IsHorizon h) (sym is.trips) (mirrored_ends n.trips)

  pub mirrored_back : (n m : Net) → IsHorizon h n.trips → IsMirrored h n m → IsMirrored h m n
  mirrored_back n m ends is =
      record {
        stops = sym is.stops;
        trips = sym (ap (map (mirrored_trip h)) is.trips ∙ trips_twice n.trips ends);
        feet = record {
          walks = λ a b seconds. ((is.feet.walks b a seconds).1, (is.feet.walks b a seconds).0);
          changes = sym is.feet.changes;
        };
      }
