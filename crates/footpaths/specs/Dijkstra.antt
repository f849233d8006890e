-- How the walking times from one stop are found: labels fall, stop by stop, until each is the least sum over chains.
use Rattle.std.specs.Prelude.{◌≡◌, ◌≢◌, ◌<◌, ◌≤◌, ◌+◌, ◌-◌, ◌*◌, ◌⊎◌, ℕ, zero, suc, List, [], length, map, sum}
use Rattle.std.specs.Prelude.{slice_index, Contains, All, nat_eq}
use Rattle.std.specs.List.{IsDistinct}
use Rattle.std.specs.List.Sorted.{IsStrictlyIncreasing}
use Rattle.std.specs.BinaryHeap.{heap_items}
use Rattle.timetable.specs.declared.trips.StopNo.{StopNo}
use Rattle.timetable.specs.declared.least.TheConstants.{NEVER}
use Rattle.footpaths.specs.declared.dijkstra.Dijkstra.{Dijkstra}
use Rattle.footpaths.specs.Adjacency.{Leaving}

-- of all stops their labels, the stops that are reached, and those whose label is still to be passed on,
-- each behind the seconds of the limit that are left there
pub record Marks : Type 0 where
  pub labels : List ℕ
  pub touched : List ℕ
  pub noted : List (ℕ × ℕ)

abbrev pub marks : Dijkstra → Marks
marks s = record { labels = s.labels.items; touched = s.touched.items; noted = heap_items s.noted }

-- nothing is labelled
pub record AreFresh (stops : ℕ) (m : Marks) : Type 0 where
  pub count : length m.labels ≡ stops
  pub never : All (λ label. label ≡ NEVER) m.labels
  pub touched : m.touched ≡ []
  pub noted : m.noted ≡ []

-- n leaving in succession lead from stop a to stop b, in s seconds
abbrev pub Way : Leaving → ℕ → ℕ → ℕ → ℕ → Type 0
Way leaving a b zero s = (a ≡ b) × (s ≡ 0)
Way leaving a b (suc n) s = (c : ℕ) × (r : ℕ) × (w : ℕ) × Way leaving a c n r
    × Contains (leaving c) (record { 0 = b }, w) × (s ≡ r + w)

-- leaving lead to stops
abbrev pub LeadToStops : ℕ → Leaving → Type 0
LeadToStops stops leaving = (stop : ℕ) → stop < stops → All (λ footpath. footpath.0.0 < stops) (leaving stop)

-- the stops that are reached, each once, are those other than the source that have a label
pub record AreTouched (source limit : ℕ) (m : Marks) : Type 0 where
  pub reached : (stop : ℕ) → Contains m.touched stop →
      (stop < length m.labels) × (stop ≢ source) × (slice_index m.labels stop ≤ limit)
  pub all : (stop : ℕ) → stop < length m.labels → stop ≢ source →
      Contains m.touched stop ⊎ (slice_index m.labels stop ≡ NEVER)
  pub once : IsDistinct nat_eq m.touched

-- a stop's label is no higher than the one that was offered, and noted where it fell
pub record Relaxed (limit stop label : ℕ) (old new : Marks) : Type 0 where
  pub count : length new.labels ≡ length old.labels
  pub lower : (p : ℕ) → slice_index new.labels p ≤ slice_index old.labels p
  pub met : slice_index new.labels stop ≤ label
  pub cause : (p : ℕ) → (slice_index new.labels p ≡ slice_index old.labels p)
      ⊎ ((p ≡ stop) × (slice_index new.labels p ≡ label) × Contains new.noted (limit - label, stop))
  pub kept : (x : ℕ × ℕ) → Contains old.noted x → Contains new.noted x
  pub only : (x : ℕ × ℕ) → Contains new.noted x → Contains old.noted x ⊎ (x ≡ (limit - label, stop))
  pub measure : 2 * sum new.labels + length new.noted ≤ 2 * sum old.labels + length old.noted
  pub touched : (source : ℕ) → slice_index old.labels source ≡ 0 → AreTouched source limit old →
      AreTouched source limit new

-- a stop's label was offered along its leaving, as far as the limit allows
pub record PassedOn (limit label : ℕ) (leaving : List (StopNo × ℕ)) (old new : Marks) : Type 0 where
  pub count : length new.labels ≡ length old.labels
  pub lower : (p : ℕ) → slice_index new.labels p ≤ slice_index old.labels p
  pub met : (v w : ℕ) → Contains leaving (record { 0 = v }, w) → label + w ≤ limit →
      slice_index new.labels v ≤ label + w
  pub cause : (p : ℕ) → (slice_index new.labels p ≡ slice_index old.labels p)
      ⊎ ((w : ℕ) × Contains leaving (record { 0 = p }, w) × (label + w ≤ limit) × (slice_index new.labels p ≡ label + w)
      × Contains new.noted (limit - slice_index new.labels p, p))
  pub kept : (x : ℕ × ℕ) → Contains old.noted x → Contains new.noted x
  pub only : (x : ℕ × ℕ) → Contains new.noted x → Contains old.noted x ⊎ ((x.0 ≤ limit) × (x.1 < length old.labels))
  pub measure : 2 * sum new.labels + length new.noted ≤ 2 * sum old.labels + length old.noted
  pub touched : (source : ℕ) → slice_index old.labels source ≡ 0 → AreTouched source limit old →
      AreTouched source limit new

-- labels are those of ways, and each label was passed on or is noted
pub record Spreads (leaving : Leaving) (stops source limit : ℕ) (m : Marks) : Type 0 where
  pub count : length m.labels ≡ stops
  pub start : slice_index m.labels source ≡ 0
  pub way : (p : ℕ) → p < stops → slice_index m.labels p ≤ limit →
      (n : ℕ) × Way leaving source p n (slice_index m.labels p)
  pub passed : (u : ℕ) → u < stops → slice_index m.labels u ≤ limit →
      Contains m.noted (limit - slice_index m.labels u, u)
      ⊎ ((v w : ℕ) → Contains (leaving u) (record { 0 = v }, w) → slice_index m.labels u + w ≤ limit →
      slice_index m.labels v ≤ slice_index m.labels u + w)
  pub noted : (x : ℕ × ℕ) → Contains m.noted x → (x.0 ≤ limit) × (x.1 < stops)
  pub touched : AreTouched source limit m

-- the stops that are reached ascend, their labels are the least sums over ways, and whatever a way reaches within the
-- limit is reached
pub record AreShortest (leaving : Leaving) (stops source limit : ℕ) (m : Marks) : Type 0 where
  pub count : length m.labels ≡ stops
  pub ascending : IsStrictlyIncreasing m.touched
  pub noted : m.noted ≡ []
  pub touched : AreTouched source limit m
  pub way : (p : ℕ) → p < stops → slice_index m.labels p ≤ limit →
      (n : ℕ) × Way leaving source p n (slice_index m.labels p)
  pub least : (p n s : ℕ) → Way leaving source p n s → s ≤ limit → slice_index m.labels p ≤ s

-- the stops that are reached, with their labels
abbrev pub row_of : Marks → List (StopNo × ℕ)
row_of m = map (λ stop. (record { 0 = stop }, slice_index m.labels stop)) m.touched
