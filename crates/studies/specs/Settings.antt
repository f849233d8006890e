-- What is asked of the files: the days, the departures, and what becomes of the durations.
use Rattle.std.specs.Prelude.{ℕ, List, ◌+◌, ◌*◌, ◌≤◌}
use Rattle.jiff_core.specs.declared.civil.date.Date.{Date}
use Rattle.rounds.specs.declared.window.Window.{Window}
use Rattle.timetable.specs.declared.limits.TheConstants.{MOST_FOOT_SECONDS}
use Rattle.timetable.specs.declared.trips.StopNo.{StopNo}
use Rattle.work_book.specs.declared.limits.TheConstants.{MOST_TRIES}
use Rattle.workers.specs.Study.{LimitsFit, Query, SharesFit}
use Rattle.rounds.specs.declared.window.TheConstants.{MOST_RIDES}
use Rattle.studies.specs.declared.limits.TheConstants.{MOST_DAYS, MOST_WORKERS}

-- settings as plain data
pub record SettingsData : Type 0 where
  pub date : Date
  pub back : ℕ
  pub ahead : ℕ
  pub first : ℕ
  pub minutes : ℕ
  pub rides : ℕ
  pub walk : ℕ
  pub shares : List ℕ
  pub withins : List ℕ
  pub workers : ℕ
  pub tries : ℕ

-- each setting is within its limits, and the departures are all on one day
pub record SettingsFit (s : SettingsData) : Type 0 where
  pub back : s.back ≤ MOST_DAYS
  pub ahead : s.ahead ≤ MOST_DAYS
  pub some_minutes : 1 ≤ s.minutes
  pub one_day : s.first + s.minutes ≤ 1440
  pub some_rides : 1 ≤ s.rides
  pub few_rides : s.rides ≤ MOST_RIDES
  pub walk : s.walk ≤ MOST_FOOT_SECONDS
  pub shares : SharesFit s.shares
  pub withins : LimitsFit s.withins
  pub some_workers : 1 ≤ s.workers
  pub few_workers : s.workers ≤ MOST_WORKERS
  pub some_tries : 1 ≤ s.tries
  pub few_tries : s.tries ≤ MOST_TRIES

-- the departures on the axis, which begins so many service days before that of the date
abbrev pub window_of : SettingsData → Window
window_of s = record { first = 86400 * s.back + 60 * s.first; minutes = s.minutes }

-- what is asked of every network, with these destinations
abbrev pub query_of : SettingsData → List StopNo → Query
query_of s destinations = record {
  window = window_of s;
  rides = s.rides;
  shares = s.shares;
  limits = s.withins;
  destinations = destinations;
}
