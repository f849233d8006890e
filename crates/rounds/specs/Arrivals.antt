-- What the labels of a batch say: by when each stop is reached, counted from the batch's base.
use Rattle.std.specs.Prelude.{◌≡◌, ◌≢◌, ℕ, ◌+◌, ◌*◌, ◌<◌, ◌≤◌, List, length, slice_index}
use Rattle.timetable.specs.declared.least.TheConstants.{NEVER}
use Rattle.timetable.specs.declared.limits.TheConstants.{END_OF_AXIS, MOST_FOOT_SECONDS}
use Rattle.timetable.specs.Least.{IsLeastOrNever}
use Rattle.timetable.specs.Journeys.{IsDuration, IsReached}
use Rattle.useful_minutes.specs.Counted.{narrow_at}
use Rattle.trip_lanes.specs.declared.lanes.TheConstants.{LANES}
use Rattle.rounds.specs.declared.batches.Bounds.{Bounds}
use Rattle.rounds.specs.declared.bounded.Batch.{Batch}
use Rattle.rounds.specs.declared.narrow.SearchedLabels.{SearchedLabels}
use Rattle.rounds.specs.declared.query.Query.{Query}
use Rattle.rounds.specs.declared.workspace.Workspace.{Workspace}
use Rattle.rounds.specs.Batches.{AreBounds, IsBoundingDeparture, IsDepartureLabel, departure_at, start_at}
use Rattle.rounds.specs.Searches.{arrival_in}

-- the duration from a departure to the time that a label tells, which counts from a base; NEVER where the label is
-- never
pub record IsCountedTo (never base depart label duration : ℕ) : Type 0 where
  pub never_so : label ≡ never → duration ≡ NEVER
  pub counted : label ≢ never → duration + depart ≡ base + label

-- no journey of the query that departs then ends at stop p so late that labels can't tell it
abbrev pub NoneLate : Query → ℕ → ℕ → ℕ → ℕ → Type 0
NoneLate q never base depart p =
    (time : ℕ) → IsReached q.network.now (start_at q depart) q.rides p time → time < base + never

-- counted from the departure, the label of stop p is the least duration
pub record IsTold (q : Query) (never base depart p label : ℕ) : Type 0 where
  pub fits : label ≤ never
  pub after : label ≢ never → depart ≤ base + label
  pub least : (duration : ℕ) → IsCountedTo never base depart label duration →
      IsLeastOrNever (IsDuration q.network.now q.origin.0 depart q.rides p) duration

-- the labels of the batch that begins at a position: in each lane those of the departure there, where labels represent
-- them; the lanes after the last departure are unused
pub record AreArrivals {R : Type 0} (lanes never : ℕ) (labels : R → List ℕ) (q : Query) (from : ℕ) (b : Batch R)
    (w : Workspace R) : Type 0 where
  pub early : b.base < END_OF_AXIS
  pub whole : NEVER ≤ never + END_OF_AXIS → b.base ≡ 0
  pub departures : (l : ℕ) → l < lanes →
      IsDepartureLabel q.times.now b.base never (from + l) (slice_index (labels b.departures) l)
  pub near : (l : ℕ) → l < lanes → from + l < length q.times.now →
      departure_at q (from + l) + MOST_FOOT_SECONDS < b.base + never
  pub told : (l p : ℕ) → l < lanes → from + l < length q.times.now → p < q.network.now.stops →
      (arrival_in labels w l p ≡ never → NoneLate q never b.base (departure_at q (from + l)) p) →
      IsTold q never b.base (departure_at q (from + l)) p (arrival_in labels w l p)
  pub unused : (l p : ℕ) → l < lanes → length q.times.now ≤ from + l → p < q.network.now.stops →
      arrival_in labels w l p ≡ never

-- the labels of the batch that begins at position `from` are exact: they represent every arrival of its departures, and
-- these departures themselves
pub record AreExact {R : Type 0} (lanes never : ℕ) (labels : R → List ℕ) (q : Query) (from base : ℕ)
    (w : Workspace R) : Type 0 where
  pub early : base < END_OF_AXIS
  pub before : (l : ℕ) → l < lanes → from + l < length q.times.now → base ≤ departure_at q (from + l)
  pub near : (l : ℕ) → l < lanes → from + l < length q.times.now → departure_at q (from + l) ≤ base + never
  pub each : (l p : ℕ) → l < lanes → from + l < length q.times.now → p < q.network.now.stops →
      IsTold q never base (departure_at q (from + l)) p (arrival_in labels w l p)

-- there is space for `width` labels of each stop, and of fifteen more, and for eight labels after these; and a base for
-- each position
pub record HaveRoomFor (stops width : ℕ) (labels bases : List ℕ) : Type 0 where
  pub places : (stops + 15) * width + 8 ≤ length labels
  pub many : width ≤ length bases

-- the narrow labels of the departures from a position on represent all arrivals, each counted from its departure's base
pub record AreToldFrom (q : Query) (width : ℕ) (labels bases : List ℕ) (from : ℕ) : Type 0 where
  pub early : (j : ℕ) → from ≤ j → j < length q.times.now → slice_index bases j < END_OF_AXIS
  pub before : (j : ℕ) → from ≤ j → j < length q.times.now → slice_index bases j ≤ departure_at q j
  pub near : (j : ℕ) → from ≤ j → j < length q.times.now → departure_at q j ≤ slice_index bases j + 65535
  pub each : (p j : ℕ) → p < q.network.now.stops → from ≤ j → j < length q.times.now →
      IsTold q 65535 (slice_index bases j) (departure_at q j) p (narrow_at width labels p j)

-- so those of all departures
pub record AreAllTold (q : Query) (width : ℕ) (labels bases : List ℕ) : Type 0 where
  pub room : HaveRoomFor q.network.now.stops width labels bases
  pub wide : length q.times.now ≤ width
  pub told : AreToldFrom q width labels bases 0

-- the labels from a position on tell all arrivals, and those of the departure there bound the batch before it; there is
-- no whole batch past the departures
pub record AreFoundSoFar (q : Query) (b : Bounds) (f : SearchedLabels) : Type 0 where
  pub room : HaveRoomFor q.network.now.stops f.width f.labels.items f.bases.items
  pub wide : length q.times.now ≤ f.width
  pub few : f.width < length q.times.now + LANES
  pub within : f.from ≤ f.width
  pub departure : IsBoundingDeparture q f.from b.departure
  pub bounds : 0 < f.from → AreBounds 65535 q b.departure b.rounds.items
  pub told : AreToldFrom q f.width f.labels.items f.bases.items f.from
