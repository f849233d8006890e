-- Facts of the positions where lines can be boarded, as they are added.
use Rattle.std.proofs.Common.{◌≡◌, inl, inr, true, false, ℕ, ◌+◌, ◌<◌, List, length, slice_get, get_or, Some, All, refl}
use Rattle.std.proofs.Common.{sym, ◌∙◌, ap, subst, arith}
use Rattle.std.proofs.lemmas.Bool.{cases_lt, false≢true}
use Rattle.std.proofs.lemmas.Option.{same_Some, slice_get-get_or, slice_get_within}
use Rattle.timetable.specs.declared.trips.Event.{Event}
use Rattle.timetable.specs.declared.trips.Trip.{Trip}
use Rattle.timetable.specs.FlatLists.{Adds, IsIn}
use Rattle.timetable.specs.Lines.{Line, IsLine, BoardsBefore, FirstBoards, AreBoarded}
use Rattle.timetable.proofs.KnownParts.{all_at}
use Rattle.timetable.proofs.ListsAddedTo.{adds_both, adds_alike}
use Rattle.timetable.proofs.ElementsInRange.{is_at}

module _ (line : ℕ) (events : List Event) (k : ℕ) (none : Event) (l : k < length events) where
  -- one more event allows to board
  pub boards_more : (a b c : List (List (ℕ × ℕ))) → Adds (BoardsBefore k line events) a b →
      (get_or events k none).board ≡ true → Adds (λ q y. (q ≡ (get_or events k none).stop.0) × (y ≡ (line, k))) b c →
      Adds (BoardsBefore (k + 1) line events) a c
  boards_more a b c before board more =
      adds_both {E = BoardsBefore (k + 1) line events} before more
      (λ p x h. elim (cases_lt h.0 k) [
        | inl lt ↦ inl (h.0, h.1, lt, h.3, h.4, h.5, h.6)
        | inr ge ↦
            let e : h.0 ≡ k = omega (arith, h.2) in
            let at = is_at events h.0 k h.1 none l e h.3 in
            inr (sym h.5 ∙ ap (λ (v : Event). v.stop.0) at, h.6 ∙ ap (λ n. (line, n)) e)
      ])
      (λ p x h. (h.0, h.1, omega (arith, h.2), h.3, h.4, h.5, h.6))
      (λ p x h. (k, get_or events k none, omega arith, slice_get-get_or events k none l, board, sym h.0, h.1))

  -- one more event does not
  pub boards_same : (a b : List (List (ℕ × ℕ))) → Adds (BoardsBefore k line events) a b →
      (get_or events k none).board ≡ false → Adds (BoardsBefore (k + 1) line events) a b
  boards_same a b before board =
      adds_alike {D = BoardsBefore (k + 1) line events} before
      (λ p x h. (h.0, h.1, omega (arith, h.2), h.3, h.4, h.5, h.6))
      (λ p x h. elim (cases_lt h.0 k) [
        | inl lt ↦ (h.0, h.1, lt, h.3, h.4, h.5, h.6)
        | inr ge ↦
            let e : h.0 ≡ k = omega (arith, h.2) in
            let at = is_at events h.0 k h.1 none l e h.3 in
            absurd (false≢true (sym board ∙ (sym (ap (λ (v : Event). v.board) at) ∙ h.4)))
      ])

module _ (trips : List Trip) (lines : List Line) where
  -- one more line, by its first trip
  pub first_more : (n : ℕ) (row : Line) (i : ℕ) (t : Trip) → slice_get lines n ≡ Some row → slice_get row 0 ≡ Some i →
      slice_get trips i ≡ Some t → (a b c : List (List (ℕ × ℕ))) → Adds (FirstBoards trips lines n) a b →
      Adds (BoardsBefore (length t.events) n t.events) b c → Adds (FirstBoards trips lines (n + 1)) a c
  first_more n row i t has_row has_trip runs a b c before more =
      adds_both {E = FirstBoards trips lines (n + 1)} before more
      (λ p x h. elim (cases_lt h.0 n) [
        | inl lt ↦ inl (h.0, h.1, h.2, h.3, lt, h.5, h.6, h.7, h.8)
        | inr ge ↦
            let e : h.0 ≡ n = omega (arith, h.4) in
            let same_row = same_Some h.1 row (sym h.5 ∙ (ap (λ m. slice_get lines m) e ∙ has_row)) in
            let same_trip = same_Some h.2 i (sym h.6 ∙ (ap (λ (r : Line). slice_get r 0) same_row ∙ has_trip)) in
            let same = same_Some h.3 t (sym h.7 ∙ (ap (λ m. slice_get trips m) same_trip ∙ runs)) in
            inr (subst (λ (u : Trip). BoardsBefore (length u.events) n u.events p x) same
            (subst (λ m. BoardsBefore (length h.3.events) m h.3.events p x) e h.8))
      ])
      (λ p x h. (h.0, h.1, h.2, h.3, omega (arith, h.4), h.5, h.6, h.7, h.8))
      (λ p x h. (n, row, i, t, omega arith, has_row, has_trip, runs, h))

  -- the first trip of a line that there is
  pub first_trip : (line : ℕ) (row : Line) → All (IsLine trips) lines → slice_get lines line ≡ Some row →
      get_or row 0 0 < length trips
  first_trip line row ok has_row =
      let its = all_at (IsLine trips) lines line row ok has_row in
      its.in_range 0 0 its.some

  -- where the first trips of all lines allow to board
  pub all_boarded : (stops : ℕ) → All (IsLine trips) lines → (a b : List (List (ℕ × ℕ))) → length a ≡ stops →
      ((p : ℕ) (x : ℕ × ℕ) → IsIn a p x → ⊥) → Adds (FirstBoards trips lines (length lines)) a b →
      AreBoarded stops trips lines b
  all_boarded stops ok a b size none adds =
      record {
        size = adds.same_length ∙ size;
        complete = λ line k e position board.
            let row = position.1.0 in
            let t = position.2.0 in
            let its = all_at (IsLine trips) lines line row ok position.1.2 in
            let at_first = slice_get-get_or row 0 0 its.some in
            let range = its.in_range 0 0 its.some in
            let first = get_or trips (get_or row 0 0) t in
            let runs = slice_get-get_or trips (get_or row 0 0) t range in
            let same = its.order 0 position.1.1 (get_or row 0 0) position.0 first t (omega arith) at_first position.1.3
            runs position.2.1 in
            let within = slice_get_within t.events k e position.2.2 in
            let l : k < length first.events = omega (arith, within, same.same_length) in
            let at_k = slice_get-get_or first.events k e l in
            let alike = same.events k (get_or first.events k e) e at_k position.2.2 in
            adds.added e.stop.0 (line, k) (
              line,
              row,
              get_or row 0 0,
              first,
              slice_get_within lines line row position.1.2,
              position.1.2,
              at_first,
              runs,
              (
                k,
                get_or first.events k e,
                l,
                at_k,
                alike.board ∙ board,
                alike.stop,
                refl,
              ),
            );
        sound = λ p line k h. elim (adds.only p (line, k) h) [
          | inl old ↦ absurd (none p (line, k) old)
          | inr f ↦
              let same_line : line ≡ f.0 = ap (λ (v : ℕ × ℕ). v.0) f.8.6 in
              let same_position : k ≡ f.8.0 = ap (λ (v : ℕ × ℕ). v.1) f.8.6 in (
                f.8.1,
                (
                  f.2,
                  (f.1, 0, ap (λ n. slice_get lines n) same_line ∙ f.5, f.6),
                  (f.3, f.7, ap (λ n. slice_get f.3.events n) same_position ∙ f.8.3),
                ),
                f.8.5,
                f.8.4,
              )
        ];
      }
