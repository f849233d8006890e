-- Marks for the minutes of a window.
use Rattle.std.specs.Prelude.{◌≡◌, ◌≢◌, ℕ, ◌+◌, ◌*◌, ◌<◌, ◌≤◌, ◌⊎◌, List, length, slice_get, slice_index}
use Rattle.std.specs.Prelude.{slice_index_or, Some, IsTrue, Bool, true, false}
use Rattle.timetable.specs.declared.least.TheConstants.{NEVER}
use Rattle.timetable.specs.declared.views.Call.{Call}
use Rattle.timetable.specs.FlatLists.{IsIn}
use Rattle.timetable.specs.Footpaths.{IsFoot}
use Rattle.timetable.specs.Lines.{Line, LineTable, AreLinesOf}
use Rattle.timetable.specs.Networks.{Net, IsNet}
use Rattle.useful_minutes.specs.Boarding.{Catches, FirstRide, IsAsSoonOnFoot}
use Rattle.useful_minutes.specs.Waits.{IsWalked}

abbrev pub IsMarked : List Bool → ℕ → Type 0
IsMarked marks m = slice_index_or marks m false ≡ true

-- each minute is marked that was
pub record Grows (old new : List Bool) : Type 0 where
  pub same : length new ≡ length old
  pub kept : (m : ℕ) → IsMarked old m → IsMarked new m

-- the minute is marked, if it is one of the window's
abbrev pub IsNoted : List Bool → ℕ → Type 0
IsNoted marks m = m < length marks → IsMarked marks m

-- the minute before `next` is noted, and who departs in it is in time
pub record IsLastBefore (first time : ℕ) (marks : List Bool) (next : ℕ) : Type 0 where
  pub minute : ℕ
  pub is : next ≡ minute + 1
  pub in_time : first + 60 * minute ≤ time
  pub noted : IsNoted marks minute

-- how long the walk from the origin to each stop takes, or NEVER
pub record AreWalks (n : Net) (origin : ℕ) (walks : List ℕ) : Type 0 where
  pub long : length walks ≡ n.stops
  pub each : (p : ℕ) → p < n.stops → IsWalked n origin p NEVER (slice_index walks p)

-- each stop that one walks to from stop p is reached no later by a walk from the origin
abbrev pub IsInner : Net → List ℕ → ℕ → Type 0
IsInner n walks p =
    (q seconds : ℕ) → IsFoot n.feet.walks p q seconds → slice_index walks q ≤ slice_index walks p + seconds

-- how long the walk to each such stop takes; NEVER at others
pub record AreInner (n : Net) (walks inner : List ℕ) : Type 0 where
  pub long : length inner ≡ length walks
  pub each : (p : ℕ) → p < length inner → slice_index inner p ≢ NEVER →
      (slice_index inner p ≡ slice_index walks p) × IsInner n walks p

-- these are the lines of a network, and the walks from a stop of it: to all stops, and to inner ones
pub record HasWalks (n : Net) (origin : ℕ) (lines : LineTable) (walks inner : List ℕ) : Type 0 where
  pub ok : IsNet n
  pub lined : AreLinesOf n.stops n.trips lines
  pub walked : AreWalks n origin walks
  pub noted : AreInner n walks inner

-- from position j of these calls a trip can be boarded first, after a walk of so many seconds, and goes on
pub record IsBoarding (calls : List Call) (walks : List ℕ) (j seconds : ℕ) : Type 0 where
  pub call : Call
  pub here : slice_get calls j ≡ Some call
  pub rides_on : j + 1 < length calls
  pub may_board : IsTrue call.board
  pub walk : slice_index walks call.stop.0 ≡ seconds
  pub some : seconds ≢ NEVER

-- who boards at position j after a walk of so many seconds stays near the origin: where they get off is an inner stop
-- that takes no longer a walk, or in between they could have boarded after a walk that is no longer
abbrev pub StaysNear : List Call → List ℕ → List ℕ → ℕ → ℕ → Type 0
StaysNear calls walks inner j seconds =
    (i : ℕ) (off : Call) → j < i → slice_get calls i ≡ Some off → IsTrue off.alight →
    (slice_index inner off.stop.0 ≤ seconds)
    ⊎ ((k : ℕ) × (s : ℕ) × (j < k) × (k < i) × (s ≤ seconds) × IsBoarding calls walks k s)

-- in ascending order such positions below n: all but some from which one stays near the origin
pub record AreBoardings (calls : List Call) (walks inner : List ℕ) (n : ℕ) (boardings : List (ℕ × ℕ)) : Type 0 where
  pub all : (j seconds : ℕ) → j < n → IsBoarding calls walks j seconds →
      ((k : ℕ) × (slice_get boardings k ≡ Some (j, seconds))) ⊎ StaysNear calls walks inner j seconds
  pub each : (k j seconds : ℕ) → slice_get boardings k ≡ Some (j, seconds) → IsBoarding calls walks j seconds × (j < n)
  pub ascend : (k l : ℕ) (a b : ℕ × ℕ) → k ≤ l → slice_get boardings k ≡ Some a → slice_get boardings l ≡ Some b →
      a.0 ≤ b.0

-- a noted minute, no sooner than minute m, from which the trip is caught at one of the boardings up to the k-th
pub record IsCovered (first : ℕ) (boardings : List (ℕ × ℕ)) (departs : ℕ → ℕ) (marks : List Bool) (k m : ℕ) :
    Type 0 where
  pub i : ℕ
  pub j : ℕ
  pub seconds : ℕ
  pub minute : ℕ
  pub no_later : i ≤ k
  pub no_sooner : m ≤ minute
  pub here : slice_get boardings i ≡ Some (j, seconds)
  pub in_time : first + seconds + 60 * minute ≤ departs j
  pub noted : IsNoted marks minute

-- so for each of the first n boardings, and each minute from which the trip is caught there
abbrev pub CoversTrip : ℕ → List (ℕ × ℕ) → (ℕ → ℕ) → List Bool → ℕ → Type 0
CoversTrip first boardings departs marks n = (k j seconds m : ℕ) → k < n → slice_get boardings k ≡ Some (j, seconds) →
    first + seconds + 60 * m ≤ departs j → IsCovered first boardings departs marks k m

-- a noted minute, no sooner than minute m, from which the trip can be boarded first before event i
pub record IsUseful (n : Net) (origin first : ℕ) (marks : List Bool) (trip i m : ℕ) : Type 0 where
  pub j : ℕ
  pub minute : ℕ
  pub before : j < i
  pub no_sooner : m ≤ minute
  pub catches : Catches n origin (first + 60 * minute) trip j
  pub noted : IsNoted marks minute

-- so for each first ride from a minute on a trip of a line; or where the ride ends one is as soon by a walk alone
abbrev pub CoversLine : Net → ℕ → ℕ → List Line → List Bool → ℕ → Type 0
CoversLine n origin first lines marks line =
    (trip j i m : ℕ) → IsIn lines line trip → (r : FirstRide n origin (first + 60 * m) trip j i) →
    IsUseful n origin first marks trip i m ⊎ IsAsSoonOnFoot n origin (first + 60 * m) r.off.stop.0 r.off.arrive

-- and for each trip
abbrev pub CoversAll : Net → ℕ → ℕ → List Bool → Type 0
CoversAll n origin first marks = (trip j i m : ℕ) (r : FirstRide n origin (first + 60 * m) trip j i) →
    IsUseful n origin first marks trip i m ⊎ IsAsSoonOnFoot n origin (first + 60 * m) r.off.stop.0 r.off.arrive
