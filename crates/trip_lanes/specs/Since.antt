-- Labels that are counted from their departures.
use Rattle.std.specs.Prelude.{◌≡◌, ◌≢◌, ℕ, ◌+◌, ◌*◌, ◌<◌, ◌≤◌}
use Rattle.timetable.specs.declared.least.TheConstants.{NEVER}

-- the new label is the old one less the departure, or NEVER where the old one is never
pub record IsSinceTo (never depart old new : ℕ) : Type 0 where
  pub never_so : old ≡ never → new ≡ NEVER
  pub since : old ≢ never → new + depart ≡ old

-- one departure a minute from the first on, so many, and no others
pub record IsMinutely (first minutes never l time : ℕ) : Type 0 where
  pub live : l < minutes → time ≡ first + 60 * l
  pub dead : minutes ≤ l → time ≡ never
