-- The narrow labels of a window, and the durations that they represent.
use Rattle.std.specs.Prelude.{◌≡◌, ◌≢◌, ℕ, ◌+◌, ◌-◌, ◌*◌, ◌<◌, ◌≤◌, ◌==◌, zero, suc, List, Option, Some, None, length, min}
use Rattle.std.specs.Prelude.{if◌then◌else◌, slice_index, slice_index_or}
use lib.Lanes.{chunk}
use Rattle.timetable.specs.declared.least.TheConstants.{NEVER}
use Rattle.timetable.specs.declared.limits.TheConstants.{END_OF_AXIS, MOST_STOPS}
use Rattle.timetable.specs.declared.trips.StopNo.{StopNo}
use Rattle.timetable.specs.Networks.{Net}
use Rattle.useful_minutes.specs.Boarding.{IsNear}
use Rattle.useful_minutes.specs.Plan.{AreMinutes, StandsIn}
use Rattle.rounds.specs.declared.labels.LabelsOrDurations.{LabelsOrDurations}
use Rattle.rounds.specs.declared.labels.LabelsOrDurations.TheVariants.{Labels, Durations}
use Rattle.rounds.specs.declared.labels.WindowLabels.{WindowLabels}
use Rattle.rounds.specs.declared.query.Query.{Query}
use Rattle.rounds.specs.declared.search.Search.{Search}
use Rattle.rounds.specs.declared.skipped.WindowPlan.{WindowPlan}
use Rattle.rounds.specs.declared.window.TheConstants.{MOST_MINUTES}
use Rattle.rounds.specs.declared.window.Window.{Window}
use Rattle.rounds.specs.Arrivals.{AreAllTold, AreToldFrom}
use Rattle.rounds.specs.Table.{DurationTable, at}
use Rattle.rounds.specs.Window.{AreDurations}

-- the duration from a departure to the time that a narrow label represents, counted from a base; none if the label is
-- 65,535
pub record IsDurationFrom (base depart label : ℕ) (duration : Option ℕ) : Type 0 where
  pub never : label ≡ 65535 → duration ≡ None
  pub counted : label ≢ 65535 → duration ≡ Some (base + label - depart)

-- the duration of each minute, by the label of the searched minute that it waits for
pub record AreLabelDurations (labels bases searched : List ℕ) (first minutes : ℕ) (of_minute : ℕ → Option ℕ) :
    Type 0 where
  pub each : (m j wait : ℕ) → m < minutes → StandsIn searched m j wait →
      IsDurationFrom (slice_index bases j) (first + 60 * m) (slice_index labels j) (of_minute m)

-- the lesser of two durations, of which either may be missing
abbrev pub lesser : Option ℕ → Option ℕ → Option ℕ
lesser None walk = walk
lesser (Some d) None = Some d
lesser (Some d) (Some walk) = Some (min d walk)

-- the labels of the stop with number q
abbrev pub labels_of : WindowLabels → ℕ → List ℕ
labels_of w q = chunk (q * w.found.width) (length w.searched.now) w.found.labels.now

-- the searched minutes, and a base for each: no later than the minute's departure, and so near to it that a label can
-- represent the departure
pub record ArePositions (bases searched : List ℕ) (first minutes : ℕ) : Type 0 where
  pub plan : AreMinutes minutes searched
  pub few : minutes ≤ MOST_MINUTES
  pub axis : first < END_OF_AXIS
  pub too : length bases ≡ length searched
  pub before : (j : ℕ) → j < length searched → slice_index bases j ≤ first + 60 * slice_index searched j
  pub near : (j : ℕ) → j < length searched → first + 60 * slice_index searched j ≤ slice_index bases j + 65535

-- no label is earlier than its departure
pub record AreSince (labels bases searched : List ℕ) (first : ℕ) : Type 0 where
  pub since : (j : ℕ) → j < length searched → slice_index labels j ≢ 65535 →
      first + 60 * slice_index searched j ≤ slice_index bases j + slice_index labels j

abbrev pub no_walk : StopNo × ℕ
no_walk = (record { 0 = 0 }, 0)

-- the stop, by its number, and the seconds of walk i
abbrev pub walk_stop : List (StopNo × ℕ) → ℕ → ℕ
walk_stop walks i = (slice_index_or walks i no_walk).0.0

abbrev pub walk_seconds : List (StopNo × ℕ) → ℕ → ℕ
walk_seconds walks i = (slice_index_or walks i no_walk).1

-- the least seconds of the first n walks that lead to the stop with number q, if any does
abbrev pub least_walk : List (StopNo × ℕ) → ℕ → ℕ → Option ℕ
least_walk walks q zero = None
least_walk walks q (suc n) =
    lesser (least_walk walks q n) (if walk_stop walks n == q then Some (walk_seconds walks n) else None)

-- the walks alone from the origin: the footpaths that leave it, and one of 0 seconds to the origin itself
pub record AreWalksFrom (n : Net) (origin : ℕ) (walks : List (StopNo × ℕ)) : Type 0 where
  pub sound : (i : ℕ) → i < length walks → IsNear n origin (walk_stop walks i) (walk_seconds walks i)
  pub complete : (p seconds : ℕ) → IsNear n origin p seconds →
      (i : ℕ) × (i < length walks) × (walk_stop walks i ≡ p) × (walk_seconds walks i ≡ seconds)

-- labels from which cells can be taken
pub record AreWindowLabels (w : WindowLabels) : Type 0 where
  pub positions : ArePositions w.found.bases.now w.searched.now w.first w.minutes
  pub width : length w.searched.now ≤ w.found.width
  pub space : (length w.numbers.now + 15) * w.found.width + 8 ≤ length w.found.labels.now
  pub few : length w.numbers.now ≤ MOST_STOPS
  pub numbers : (p : ℕ) → p < length w.numbers.now → slice_index w.numbers.now p < length w.numbers.now
  pub walks : (i : ℕ) → i < length w.walks.now → walk_stop w.walks.now i < length w.numbers.now
  pub seconds : (i : ℕ) → i < length w.walks.now → walk_seconds w.walks.now i < NEVER
  pub since : (p : ℕ) → p < length w.numbers.now →
      AreSince (labels_of w (slice_index w.numbers.now p)) w.found.bases.now w.searched.now w.first

-- the labels and walks represent a table of durations: each duration is the lesser of the one that the stop's labels
-- give and the least walk
pub record Represent (w : WindowLabels) (t : DurationTable) : Type 0 where
  pub stops : t.stops ≡ length w.numbers.now
  pub minutes : t.minutes ≡ w.minutes
  pub by_label : ℕ → ℕ → Option ℕ
  pub labels : (p : ℕ) → p < t.stops →
      AreLabelDurations (labels_of w (slice_index w.numbers.now p)) w.found.bases.now w.searched.now w.first w.minutes
      (by_label p)
  pub durations : (p m : ℕ) → p < t.stops → m < t.minutes → at t p m
      ≡ lesser (by_label p m) (least_walk w.walks.now (slice_index w.numbers.now p) (length w.walks.now))

-- the labels of a query's departures, those of the searched minutes, from which nothing is missing: they count from a
-- base each, and the walks alone go with them
pub record AreQueryLabels (q : Query) (p : WindowPlan) (w : WindowLabels) : Type 0 where
  pub searched : w.searched.now ≡ p.searched.now
  pub first : w.first ≡ p.window.first
  pub minutes : w.minutes ≡ p.window.minutes
  pub many : length w.found.bases.now ≡ length q.times.now
  pub wide : length q.times.now ≤ w.found.width
  pub space : (q.network.now.stops + 15) * w.found.width + 8 ≤ length w.found.labels.now
  pub told : AreToldFrom q w.found.width w.found.labels.now w.found.bases.now 0
  pub walks : AreWalksFrom q.network.now q.origin.0 w.walks.now

-- a search holds the labels of a query, the searched minutes, and the walks alone from its origin
pub record HasLabels (q : Query) (p : WindowPlan) (s : Search) : Type 0 where
  pub labels : AreAllTold q s.searched_labels.width s.searched_labels.labels.items s.searched_labels.bases.items
  pub searched : s.searched_minutes.items ≡ p.searched.now
  pub walks : AreWalksFrom q.network.now q.origin.0 s.walks.items

-- labels that represent the least durations of journeys of at most k rides
pub record AreLabelsOf (n : Net) (origin : ℕ) (w : Window) (k : ℕ) (labels : WindowLabels) : Type 0 where
  pub are : AreWindowLabels labels
  pub table : DurationTable
  pub durations : AreDurations n origin w k table
  pub represent : Represent labels table

-- the least durations, or labels that represent them
abbrev pub AreFound : Net → ℕ → Window → ℕ → LabelsOrDurations → Type 0
AreFound n origin w k (Labels labels) = AreLabelsOf n origin w k labels
AreFound n origin w k (Durations table) = AreDurations n origin w k table
