-- Facts of the trips that serve a stop, as they are added.
use Rattle.std.proofs.Common.{◌≡◌, inl, inr, ℕ, ◌+◌, ◌<◌, List, [], ◌∷◌, ◌++◌, length, slice_get, get_or, Some, All}
use Rattle.std.proofs.Common.{sym, ◌∙◌, ap, subst, arith}
use Rattle.std.proofs.lemmas.Bool.{cases_lt}
use Rattle.std.proofs.lemmas.Option.{same_Some, slice_get-get_or, slice_get_within}
use Rattle.std.proofs.lemmas.List.Elements.{All-push, All-nil}
use Rattle.timetable.specs.declared.trips.Event.{Event}
use Rattle.timetable.specs.declared.trips.Trip.{Trip}
use Rattle.timetable.specs.FlatLists.{Adds, IsIn}
use Rattle.timetable.specs.Serving.{StopsBy, ServesBefore, AscendsBelow, AreServing}
use Rattle.timetable.proofs.KnownParts.{all_at}
use Rattle.timetable.proofs.ElementsInRange.{is_at}
use Rattle.timetable.proofs.ListsAddedTo.{adds_both, get_cases}

-- one more number, which is not the last one
pub ascends_more : (n : ℕ) (row : List ℕ) → AscendsBelow (n + 1) row →
    ((k : ℕ) → length row ≡ k + 1 → slice_get row k ≡ Some n → ⊥) → AscendsBelow (n + 1) (row ++ n ∷ [])
ascends_more n row ok other =
    record {
      ascends = λ k a b ha hb. elim (get_cases row n (k + 1) b hb) [
        | inl b_old ↦ elim (get_cases row n k a ha) [
          | inl a_old ↦ ok.ascends k a b a_old b_old
          | inr a_new ↦ absurd (let w = slice_get_within row (k + 1) b b_old in omega (arith, w, a_new.0))
        ]
        | inr b_new ↦ elim (get_cases row n k a ha) [
          | inl a_old ↦
              let low = all_at (λ x. x < n + 1) row k a ok.below a_old in
              elim (cases_lt a n) [
                | inl lt ↦ omega (arith, b_new.1)
                | inr ge ↦ let e : a ≡ n = omega (arith, low) in absurd (other k (sym b_new.0) (a_old ∙ ap Some e))
              ]
          | inr a_new ↦ absurd (omega (arith, a_new.0, b_new.0))
        ]
      ];
      below = All-push (λ x. x < n + 1) row n ok.below (omega arith);
    }

pub ascends_below : (n : ℕ) (row : List ℕ) → AscendsBelow n row → AscendsBelow (n + 1) row
ascends_below n row ok = record {
  ascends = ok.ascends;
  below = λ k d l. let low = ok.below k d l in
      omega (arith, low);
}

-- one more event of a trip
pub stops_more : (trip : ℕ) (events : List Event) (k : ℕ) (none : Event) → k < length events → (a b c : List (List ℕ)) →
    Adds (StopsBy k trip events) a b → Adds (λ p x. (p ≡ (get_or events k none).stop.0) × (x ≡ trip)) b c →
    Adds (StopsBy (k + 1) trip events) a c
stops_more trip events k none l a b c before more =
    adds_both {E = StopsBy (k + 1) trip events} before more
    (λ p x h. elim (cases_lt h.1.0 k) [
      | inl lt ↦ inl (h.0, (h.1.0, h.1.1, lt, h.1.3, h.1.4))
      | inr ge ↦
          let within = h.1.2 in
          let e : h.1.0 ≡ k = omega (arith, within) in
          let at = is_at events h.1.0 k h.1.1 none l e h.1.3 in
          inr (sym h.1.4 ∙ ap (λ (v : Event). v.stop.0) at, h.0)
    ])
    (λ p x h. (h.0, (h.1.0, h.1.1, let within = h.1.2 in omega (arith, within), h.1.3, h.1.4)))
    (λ p x h. (h.1, (k, get_or events k none, omega arith, slice_get-get_or events k none l, sym h.0)))

module _ (trips : List Trip) where
  -- one more trip
  pub serves_more : (n : ℕ) (t : Trip) → slice_get trips n ≡ Some t → (a b c : List (List ℕ)) →
      Adds (ServesBefore n trips) a b → Adds (StopsBy (length t.events) n t.events) b c →
      Adds (ServesBefore (n + 1) trips) a c
  serves_more n t runs a b c before more =
      adds_both {E = ServesBefore (n + 1) trips} before more
      (λ p x h. elim (cases_lt x n) [
        | inl lt ↦ inl (lt, h.1)
        | inr ge ↦
            let below = h.0 in
            let e : x ≡ n = omega (arith, below) in
            let its = h.1.2 in
            let same = same_Some its.0 t (sym its.1 ∙ (ap (λ m. slice_get trips m) e ∙ runs)) in
            let here = subst (λ (u : Trip). slice_get u.events h.1.0 ≡ Some h.1.1) same its.2 in
            inr (e, (h.1.0, h.1.1, slice_get_within t.events h.1.0 h.1.1 here, here, h.1.3))
      ])
      (λ p x h. (let below = h.0 in omega (arith, below), h.1))
      (λ p x h. (
        let e = h.0 in omega (arith, e),
        (h.1.0, h.1.1, (t, ap (λ m. slice_get trips m) h.0 ∙ runs, h.1.3), h.1.4),
      ))

  -- all trips
  pub all_serving : (stops n : ℕ) (a b : List (List ℕ)) → length a ≡ stops → ((p x : ℕ) → IsIn a p x → ⊥) →
      Adds (ServesBefore (length trips) trips) a b → All (AscendsBelow n) b → AreServing stops trips b
  all_serving stops n a b size none adds ascends =
      record {
        size = adds.same_length ∙ size;
        each = λ stop row h. record {
          ascends = (all_at (AscendsBelow n) b stop row ascends h).ascends;
          complete = λ trip s.
              let i = adds.added stop trip (slice_get_within trips trip s.2.0 s.2.1, s) in
              let same = same_Some i.0 row (sym i.2 ∙ h) in
              (i.1, subst (λ (r : List ℕ). slice_get r i.1 ≡ Some trip) same i.3);
          sound = λ k trip g. elim (adds.only stop trip (row, k, h, g)) [
            | inl old ↦ absurd (none stop trip old)
            | inr s ↦ s.1
          ];
        };
      }

-- no numbers
pub ascends_none : (n : ℕ) → AscendsBelow n []
ascends_none n =
    record {
      ascends = λ k a b ha hb. absurd (let w = slice_get_within [] k a ha in omega (arith, w));
      below = All-nil (λ x. x < n);
    }
