-- Facts of trips that follow one another, and of lines to which a trip is added.
use Rattle.std.proofs.Common.{◌≡◌, inl, inr, ℕ, ◌+◌, ◌-◌, ◌<◌, ◌≤◌, List, [], ◌∷◌, ◌++◌, length, slice_get, get_or}
use Rattle.std.proofs.Common.{Some, refl, sym, ◌∙◌, ap, subst, arith}
use Rattle.std.proofs.lemmas.Option.{same_Some, slice_get-get_or, slice_get_within}
use Rattle.std.proofs.lemmas.List.{length_push}
use Rattle.std.proofs.lemmas.List.Elements.{All-push, All-nil}
use Rattle.timetable.specs.declared.trips.Event.{Event}
use Rattle.timetable.specs.declared.trips.Trip.{Trip}
use Rattle.timetable.specs.Lines.{Line, Follows, Joins, IsLine}
use Rattle.timetable.proofs.ListsAddedTo.{get_cases}
use Rattle.timetable.proofs.KnownParts.{all_at}

pub follows_itself : (events : List Event) → Follows events events
follows_itself events =
    record {
      same_length = refl;
      events = λ k e f h g.
          let same = same_Some e f (sym h ∙ g) in
          record {
            stop = ap (λ (x : Event). x.stop.0) same;
            board = ap (λ (x : Event). x.board) same;
            alight = ap (λ (x : Event). x.alight) same;
            arrive = omega (arith, ap (λ (x : Event). x.arrive) same);
            depart = omega (arith, ap (λ (x : Event). x.depart) same);
          };
    }

pub follows_far : (a b c : List Event) → Follows a b → Follows b c → Follows a c
follows_far a b c first second =
    record {
      same_length = first.same_length ∙ second.same_length;
      events = λ k e f h g.
          let none = e in
          let within = slice_get_within a k e h in
          let here : k < length b = omega (arith, first.same_length) in
          let mid = slice_get-get_or b k none here in
          let one = first.events k e (get_or b k none) h mid in
          let two = second.events k (get_or b k none) f mid g in
          record {
            stop = one.stop ∙ two.stop;
            board = one.board ∙ two.board;
            alight = one.alight ∙ two.alight;
            arrive = omega (arith, one.arrive, two.arrive);
            depart = omega (arith, one.depart, two.depart);
          };
    }

-- a line of one trip
pub line_of_one : (trips : List Trip) (trip : ℕ) → trip < length trips → IsLine trips (trip ∷ [])
line_of_one trips trip l =
    record {
      some = omega arith;
      in_range = All-push (λ i. i < length trips) [] trip (All-nil (λ i. i < length trips)) l;
      order = λ r s i j t u le hr hs ht hu. elim (get_cases [] trip r i hr) [
        | inl none ↦ absurd (let w = slice_get_within [] r i none in omega (arith, w))
        | inr first ↦ elim (get_cases [] trip s j hs) [
          | inl none ↦ absurd (let w = slice_get_within [] s j none in omega (arith, w))
          | inr second ↦
              let same : t ≡ u = same_Some t u (sym ht ∙ (ap (λ n. slice_get trips n) (first.1 ∙ sym second.1) ∙ hu)) in
              subst (λ (w : Trip). Follows t.events w.events) same (follows_itself t.events)
        ]
      ];
    }

-- a line with one more trip
pub line_more : (trips : List Trip) (line : Line) (trip : ℕ) (u : Trip) → IsLine trips line →
    slice_get trips trip ≡ Some u → Joins trips line u.events → IsLine trips (line ++ trip ∷ [])
line_more trips line trip u ok runs joins =
    record {
      some = omega (arith, length_push line trip);
      in_range = All-push (λ i. i < length trips) line trip ok.in_range (slice_get_within trips trip u runs);
      order = λ r s i j t v le hr hs ht hv. elim (get_cases line trip s j hs) [
        | inl s_old ↦ elim (get_cases line trip r i hr) [
          | inl r_old ↦ ok.order r s i j t v le r_old s_old ht hv
          | inr r_new ↦ absurd (let w = slice_get_within line s j s_old in omega (arith, w, r_new.0))
        ]
        | inr s_new ↦
            let is_u : v ≡ u = same_Some v u (sym hv ∙ (ap (λ n. slice_get trips n) s_new.1 ∙ runs)) in
            subst (λ (w : Trip). Follows t.events w.events) (sym is_u) (elim (get_cases line trip r i hr) [
              | inl r_old ↦
                  let w = slice_get_within line r i r_old in
                  let last = length line - 1 in
                  let l : last < length line = omega (arith, w) in
                  let at_last = slice_get-get_or line last 0 l in
                  let l_range = all_at (λ n. n < length trips) line last (get_or line last 0) ok.in_range at_last in
                  let its = slice_get-get_or trips (get_or line last 0) u l_range in
                  let long : length line ≡ last + 1 = omega (arith, w) in
                  let up : r ≤ last = omega (arith, w) in
                  follows_far t.events (get_or trips (get_or line last 0) u).events u.events
                  (ok.order r last i (get_or line last 0) t (get_or trips (get_or line last 0) u) up r_old at_last ht
                  its)
                  (joins last (get_or line last 0) (get_or trips (get_or line last 0) u) long at_last its)
              | inr r_new ↦
                  let is_t : t ≡ u = same_Some t u (sym ht ∙ (ap (λ n. slice_get trips n) r_new.1 ∙ runs)) in
                  subst (λ (w : Trip). Follows w.events u.events) (sym is_t) (follows_itself u.events)
            ])
      ];
    }
