-- What a table of lanes says of a stop and a minute.
use Rattle.std.proofs.Common.{◌≡◌, ℕ, ◌+◌, ◌*◌, ◌/◌, ◌%◌, ◌<◌, ◌≤◌, List, [], length, get_or, slice_index, take, Option}
use Rattle.std.proofs.Common.{None, sym, ◌∙◌, ap, subst, arith, refl}
use Rattle.std.proofs.lemmas.List.{get_or-drop, get_or-take}
use Rattle.std.proofs.lemmas.List.FromFn.{length-map-range_with_len, get_or-map-range_with_len}
use Rattle.std.proofs.lemmas.Nat.{div-mul-add, mod-mul-add}
use Rattle.std.proofs.Math.Nat.{mul-le-mul_right}
use Rattle.std.proofs.lemmas.Slice.{between_is}
use Rattle.std.specs.List.{slice_range}
use Rattle.timetable.specs.Networks.{IsNet, Net}
use Rattle.timetable.specs.Numbering.{number_in}
use Rattle.timetable.specs.Renumbering.{IsRenumbered}
use Rattle.timetable.proofs.RenumberedJourneys.{labels_stay}
use Rattle.timetable.specs.Journeys.{IsDuration}
use Rattle.useful_minutes.proofs.FilledLabels.{position_before}
use Rattle.rounds.specs.declared.window.Window.{Window}
use Rattle.rounds.specs.Window.{departure, AreDurations}
use Rattle.rounds.specs.Batches.{AreWindowDurations}
use Rattle.rounds.specs.Table.{IsDurationTable, AreLanes, table_of, durations_of, batches_of, label_in, label_of}
use Rattle.rounds.specs.Table.{known_of, at, IsLeastOrNone}
use Rattle.rounds.proofs.FilledTable.{known_least}

length_durations : (stops minutes : ℕ) (numbers : List ℕ) (labels : List (List ℕ)) →
    length (durations_of stops minutes numbers labels) ≡ stops * minutes
unfolding durations_of
length_durations stops minutes numbers labels =
    length-map-range_with_len
    (λ (i : ℕ). known_of (label_of minutes labels (slice_index numbers (i / minutes)) (i % minutes))) 0
    (stops * minutes)

pub table_in_range : (stops minutes : ℕ) (numbers : List ℕ) (labels : List (List ℕ)) →
    AreLanes stops minutes numbers labels → IsDurationTable (table_of stops minutes numbers labels)
table_in_range stops minutes numbers labels are =
    record {
      size = length_durations stops minutes numbers labels;
      few_stops = are.few_stops;
      few_minutes = are.few_minutes;
    }

-- the duration of a stop for a minute is what its label tells
pub known_at : (stops minutes : ℕ) (numbers : List ℕ) (labels : List (List ℕ)) (p m : ℕ) → p < stops → m < minutes →
    at (table_of stops minutes numbers labels) p m ≡ known_of (label_of minutes labels (slice_index numbers p) m)
unfolding durations_of
known_at stops minutes numbers labels p m l r =
    get_or-map-range_with_len
    (λ (i : ℕ). known_of (label_of minutes labels (slice_index numbers (i / minutes)) (i % minutes))) 0
    (stops * minutes) (p * minutes + m) (p * minutes + m) None (position_before minutes p stops m l r)
    (omega arith)
    ∙ (ap (λ (q : ℕ). known_of (label_of minutes labels (slice_index numbers q) ((p * minutes + m) % minutes)))
    (div-mul-add p minutes m r)
    ∙ ap (λ (k : ℕ). known_of (label_of minutes labels (slice_index numbers p) k)) (mod-mul-add p minutes m r))

-- the lanes of a number below another end before those of the other begin
pub all_before : (w p stops : ℕ) → p < stops → (p + 1) * w ≤ stops * w
all_before w p stops l = mul-le-mul_right w (omega (arith, l))

-- the lanes at a number, as a part of the table
pub part_at : (labels : List (List ℕ)) (minutes p m : ℕ) → (p + 1) * batches_of minutes ≤ length labels →
    m < 16 * batches_of minutes → label_in (slice_range labels (p * batches_of minutes)
    (p * batches_of minutes + batches_of minutes)) m ≡ label_of minutes labels p m
part_at labels minutes p m all r =
    let w = batches_of minutes in
    let b : m / 16 < w = omega (arith, r) in
    let one : get_or (slice_range labels (p * w) (p * w + w)) (m / 16) [] ≡ get_or labels (p * w + m / 16) [] =
    rw (between_is labels (p * w) (p * w + w), get_or-drop (p * w) (take (p * w + w) labels) (m / 16) [])
    (get_or-take (p * w + w) labels (p * w + m / 16) [] (omega (arith, b))) in
    ap (λ (row : List ℕ). slice_index row (m % 16)) one

-- the table that was filled: it is of a network whose stops have the numbers
pub filled : (n m : Net) (origin : ℕ) (w : Window) (k : ℕ) (numbers : List ℕ) (labels : List (List ℕ)) → IsNet n →
    IsRenumbered (number_in numbers) n m → origin < n.stops → m.stops ≡ n.stops →
    AreLanes n.stops w.minutes numbers labels → AreWindowDurations m (slice_index numbers origin) w k labels →
    AreDurations n origin w k (table_of n.stops w.minutes numbers labels)
filled n m origin w k numbers labels ok renumbered at_stop same are is =
    record {
      size = table_in_range n.stops w.minutes numbers labels are;
      stops = refl;
      minutes = refl;
      each = λ p minute l r.
          let low = are.low p l in
          let least = is.each (slice_index numbers p) minute (omega (arith, low, same)) r in
          let here = (labels_stay (number_in numbers) n m origin (departure w minute) k p
          (label_of w.minutes labels (slice_index numbers p) minute) ok renumbered at_stop l).1 least in
          subst (λ (o : Option ℕ). IsLeastOrNone (IsDuration n origin (departure w minute) k p) o)
          (sym (known_at n.stops w.minutes numbers labels p minute l r))
          (known_least (IsDuration n origin (departure w minute) k p) _ here);
    }
