-- The records of each trip, put in order, ascend.
use Rattle.std.proofs.Common.{◌≡◌, ◌≤◌, ◌+◌, ◌==◌, ◌∙◌, ℕ, Bool, true, false, List, [], ◌∷◌, ◌++◌, length}
use Rattle.std.proofs.Common.{arith, refl, sym, ap, subst, if◌then◌else◌}
use Rattle.std.proofs.lemmas.Bool.Decides.{nat_tests}
use Rattle.std.proofs.lemmas.List.{append-nil, append_assoc}
use Rattle.std.proofs.lemmas.List.Elements.{All-cons, All-nil}
use Rattle.std.proofs.lemmas.Bool.{or_parts}
use Rattle.std.specs.Prelude.{All, nat_lt}
use Rattle.table_records.specs.Faults.{faults_after, faults_at, when}
use Rattle.table_records.specs.declared.fault.FileName.TheVariants as file
use Rattle.table_records.specs.declared.fault.What.{What}
use Rattle.table_records.specs.declared.fault.What.TheVariants as what
use Rattle.trip_events.specs.StopTimes.{TimeRow, checks, of_trip, sequence_of, sorted_from, sorted_trips, stop_time_of}
use Rattle.trip_events.specs.StopTimes.{stop_times_of, trip_of}
use Rattle.trip_events.specs.TripTimes.{IsAscending, has_number, in_order, insert_in_order}
use Rattle.trip_events.specs.declared.trip_times.StopTime.{StopTime}
use Rattle.trip_events.proofs.EventFacts.{no_parts, none_mapped}
use Rattle.trip_events.proofs.SortedFacts.{insert_all_push, more_other, more_same, number_in_order}
use Rattle.trip_events.proofs.TimeFacts.{stop_times_push}

-- a record with a number of its own, put where it belongs
insert_up : (low : ℕ) (s : StopTime) (xs : List StopTime) → low ≤ s.sequence → IsAscending low xs →
    has_number s.sequence xs ≡ false → IsAscending low (insert_in_order s xs)
insert_up low s [] le up absent = (le, tt)
insert_up low s (t ∷ rest) le up absent =
    by (nat_lt s.sequence t.sequence) refl (λ gt more. insert_up (t.sequence + 1) s rest gt up.1 more)
  where
    by : (b : Bool) → nat_lt s.sequence t.sequence ≡ b →
        (t.sequence + 1 ≤ s.sequence → has_number s.sequence rest ≡ false →
        IsAscending (t.sequence + 1) (insert_in_order s rest))
        → IsAscending low (if b then s ∷ t ∷ rest else t ∷ insert_in_order s rest)
    by true h on = let lt : s.sequence + 1 ≤ t.sequence = grind (arith, nat_tests, h) in (le, (lt, up.1))
    by false h on =
        let (here, more) = or_parts (t.sequence == s.sequence) (has_number s.sequence rest) absent in
        let gt : t.sequence + 1 ≤ s.sequence = grind (arith, nat_tests, h, here) in
        (up.0, on gt more)

-- one more record of a trip, with a number that none of the trip's has
grows : (t u : ℕ) (old : List (ℕ × StopTime)) (s : StopTime) → IsAscending 0 (in_order (of_trip t old)) →
    has_number s.sequence (of_trip u old) ≡ false → IsAscending 0 (in_order (of_trip t (old ++ (u, s) ∷ [])))
grows t u old s up absent = by (u == t) refl
  where
    by : (b : Bool) → (u == t) ≡ b → IsAscending 0 (in_order (of_trip t (old ++ (u, s) ∷ [])))
    by true h =
        let same : t ≡ u = grind (arith, nat_tests, h) in
        let more : in_order (of_trip t (old ++ (u, s) ∷ [])) ≡ insert_in_order s (in_order (of_trip t old)) =
        ap (λ (n : ℕ). in_order (of_trip t (old ++ (n, s) ∷ []))) (sym same) ∙ ap in_order (more_same t old s)
        ∙ insert_all_push [] (of_trip t old) s in
        let none : has_number s.sequence (in_order (of_trip t old)) ≡ false =
        number_in_order s.sequence (of_trip t old) ∙ ap (λ (n : ℕ). has_number s.sequence (of_trip n old)) same
        ∙ absent in
        subst (IsAscending 0) (sym more) (insert_up 0 s (in_order (of_trip t old)) (omega arith) up none)
    by false h =
        let other = more_other u t old s (λ e. absurd (grind (arith, nat_tests, h, e))) in
        subst (λ (l : List StopTime). IsAscending 0 (in_order l)) (sym other) up

pub clean : (b : Bool) (w : What) → when b w ≡ [] → b ≡ false
clean true w e = cc e
clean false w e = refl

module _ (trips stops : List (List ℕ)) where
  -- a record without fault has a number that its trip has not yet
  number_is_new : (before : List TimeRow) (r : TimeRow) → checks trips stops before r ≡ [] →
      has_number (sequence_of r) (of_trip (trip_of trips r) (stop_times_of trips stops before)) ≡ false
  number_is_new before r none =
      let (front, _) = no_parts _ _ none in
      let (_, here) = no_parts _ _ front in
      clean _ what.DuplicateId here

  up_to : (t : ℕ) (before rows : List TimeRow) →
      IsAscending 0 (in_order (of_trip t (stop_times_of trips stops before))) →
      faults_after file.StopTimes (checks trips stops) before rows ≡ []
      → IsAscending 0 (in_order (of_trip t (stop_times_of trips stops (before ++ rows))))
  up_to t before [] up none =
      subst (λ (l : List TimeRow). IsAscending 0 (in_order (of_trip t (stop_times_of trips stops l))))
      (sym (append-nil before)) up
  up_to t before (r ∷ rows) up none =
      let (here, after) = no_parts (faults_at file.StopTimes (checks trips stops) before r) _ none in
      let new = number_is_new before r (none_mapped _ (checks trips stops before r) here) in
      let pushed = stop_times_push trips stops 2 before r in
      let added = stop_time_of stops (length before + 2) r in
      let more = subst (λ (l : List (ℕ × StopTime)). IsAscending 0 (in_order (of_trip t l))) (sym pushed)
      (grows t (trip_of trips r) (stop_times_of trips stops before) added up new) in
      subst (λ (l : List TimeRow). IsAscending 0 (in_order (of_trip t (stop_times_of trips stops l))))
      (append_assoc before (r ∷ []) rows) (up_to t (before ++ r ∷ []) rows more after)

  all_up : (rows : List TimeRow) → faults_after file.StopTimes (checks trips stops) [] rows ≡ [] →
      (first : ℕ) (ids : List (List ℕ))
      → All (IsAscending 0) (sorted_from (stop_times_of trips stops rows) first ids)
  all_up rows none first [] = All-nil (IsAscending 0)
  all_up rows none first (id ∷ ids) =
      All-cons (IsAscending 0) (in_order (of_trip first (stop_times_of trips stops rows)))
      (sorted_from (stop_times_of trips stops rows) (first + 1) ids) (up_to first [] rows tt none)
      (all_up rows none (first + 1) ids)

  pub ascend : (rows : List TimeRow) → faults_after file.StopTimes (checks trips stops) [] rows ≡ [] →
      All (IsAscending 0) (sorted_trips trips stops rows)
  ascend rows none = all_up rows none 0 trips
