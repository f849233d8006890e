-- The records of one trip of stop_times.txt, in ascending order of their sequence numbers.
-- (GTFS Schedule reference, stop_times.txt: "The values must increase along the trip but do not need to be
-- consecutive.")
use Rattle.std.specs.Prelude.{◌≡◌, ◌<◌, ◌≤◌, ◌+◌, ◌==◌, ℕ, Bool, false, List, [], ◌∷◌, length, insert, IfSome, nat_lt}
use Rattle.std.specs.Prelude.{⊤, if◌then◌else◌}
use Rattle.std.specs.List.{list_any}
use Rattle.trip_events.specs.declared.trip_times.StopTime.{StopTime}
use Rattle.trip_events.specs.declared.trip_times.VisitTimes.{VisitTimes}

-- the sequence numbers ascend, the first being at least `low`
abbrev pub IsAscending : ℕ → List StopTime → Type 0
IsAscending low [] = ⊤
IsAscending low (s ∷ rest) = (low ≤ s.sequence) × IsAscending (s.sequence + 1) rest

-- whether one of the records has this sequence number
abbrev pub has_number : ℕ → List StopTime → Bool
has_number n trip_times = list_any (λ s. s.sequence == n) trip_times

-- a record put before the first one whose sequence number is greater
abbrev pub insert_in_order : StopTime → List StopTime → List StopTime
insert_in_order s [] = s ∷ []
insert_in_order s (t ∷ rest) = if nat_lt s.sequence t.sequence then s ∷ t ∷ rest else t ∷ insert_in_order s rest

abbrev pub insert_all : List StopTime → List StopTime → List StopTime
insert_all sorted [] = sorted
insert_all sorted (s ∷ rest) = insert_all (insert_in_order s sorted) rest

-- records in ascending order of their sequence numbers
abbrev pub in_order : List StopTime → List StopTime
in_order trip_times = insert_all [] trip_times

-- no record has the sequence number, and one that has it belongs at this position
pub record FitsAt (i n : ℕ) (trip_times : List StopTime) : Type 0 where
  pub within : i ≤ length trip_times
  pub absent : has_number n trip_times ≡ false
  pub placed : (s : StopTime) → s.sequence ≡ n → insert trip_times i s ≡ insert_in_order s trip_times
  pub ascending : (s : StopTime) → s.sequence ≡ n → IsAscending 0 (insert trip_times i s)

-- times within 168 hours
pub record AreTimes (t : VisitTimes) : Type 0 where
  pub arrive : t.arrive ≤ 604799
  pub depart : t.depart ≤ 604799

-- a record whose stop, if it names one, is one of so many, and whose times, if it has them, are within 168 hours
pub record IsSound (stops : ℕ) (s : StopTime) : Type 0 where
  pub stop : IfSome s.stop (λ n. n < stops)
  pub times : IfSome s.times AreTimes
