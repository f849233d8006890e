-- Closed footpaths: for each stop the other stops that chains of direct footpaths reach within a limit, each with its
-- walking time; the change times stay. Two walks never follow one another in a journey, since one closed footpath
-- stands for all of them.
use Rattle.std.specs.Prelude.{◌≡◌, ◌≢◌, ℕ, ◌<◌, ◌≤◌, ◌+◌, List, length, slice_get, sum_by, Some}
use Rattle.timetable.specs.declared.trips.StopNo.{StopNo}
use Rattle.timetable.specs.declared.limits.TheConstants.{MOST_FOOTPATHS}
use Rattle.timetable.specs.Footpaths.{FootLists, FeetData, IsFoot}
use Rattle.footpaths.specs.declared.faults.FootFault.{FootFault}
use Rattle.footpaths.specs.declared.faults.FootFault.TheVariants.{TooMany, Memory}
use Rattle.footpaths.specs.Direct.{Footpath, DirectLists}
use Rattle.footpaths.specs.Chains.{Foot, HasChain}

-- the stops that a row leads to ascend, so that none comes twice
abbrev pub Ascends : List (StopNo × ℕ) → Type 0
Ascends row = (k : ℕ) (x y : StopNo × ℕ) → slice_get row k ≡ Some x → slice_get row (k + 1) ≡ Some y → x.0.0 < y.0.0

-- the rows of all stops ascend
abbrev pub AllAscend : FootLists → Type 0
AllAscend feet = (a : ℕ) (row : List (StopNo × ℕ)) → slice_get feet a ≡ Some row → Ascends row

-- each stated time is the walking time, whatever a chain reaches within the limit is stated, and the change times stay
pub record AreClosed (direct : DirectLists) (limit : ℕ) (feet : FeetData) : Type 0 where
  pub lists : length feet.walks ≡ direct.stops
  pub ascending : AllAscend feet.walks
  pub least : (a b seconds : ℕ) → IsFoot feet.walks a b seconds → Foot direct.pairs limit a b seconds
  pub complete : (a b seconds : ℕ) → a ≢ b → HasChain direct.pairs a b seconds → seconds ≤ limit →
      (time : ℕ) × IsFoot feet.walks a b time
  pub changes : feet.changes ≡ direct.changes

-- ... and they are few enough
pub record IsClosure (direct : DirectLists) (limit : ℕ) (feet : FeetData) : Type 0 where
  pub closed : AreClosed direct limit feet
  pub few : sum_by length feet.walks ≤ MOST_FOOTPATHS

-- too many pairs of stops have a walking time: some of them, each once, are past the limit of footpaths
pub record HasTooMany (direct : List Footpath) (limit : ℕ) : Type 0 where
  pub some_feet : FootLists
  pub ascending : AllAscend some_feet
  pub are_feet : (a b seconds : ℕ) → IsFoot some_feet a b seconds → Foot direct limit a b seconds
  pub many : MOST_FOOTPATHS < sum_by length some_feet

-- why footpaths aren't closed
abbrev pub IsFootFault : FootFault → DirectLists → ℕ → Type 0
IsFootFault TooMany direct limit = HasTooMany direct.pairs limit
IsFootFault Memory direct limit = Unit {0}

-- two closures of the same footpaths within the same limit are one
abbrev pub ClosuresAreUnique : Type 0
ClosuresAreUnique = (direct : DirectLists) (limit : ℕ) (f g : FeetData) → AreClosed direct limit f →
    AreClosed direct limit g → f ≡ g

-- footpaths that are too many have no closure that is few enough
abbrev pub TooManyHaveNoClosure : Type 0
TooManyHaveNoClosure = (direct : DirectLists) (limit : ℕ) (feet : FeetData) → HasTooMany direct.pairs limit →
    IsClosure direct limit feet → ⊥
