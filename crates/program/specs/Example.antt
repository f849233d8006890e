-- The study that the program carries.
-- "Without arguments the program answers one departure on a Monday from stop A of the small feed." (The program's own
-- rule.)
use Rattle.std.specs.Prelude.{◌≡◌, pos, [], ◌∷◌, Some, None}
use Rattle.jiff_core.specs.Date.{IsYmd}
use Rattle.small_feed.specs.SmallFeed.{from_a, small_feed}
use Rattle.studies.specs.Inputs.{InputFiles}
use Rattle.studies.specs.Settings.{SettingsData}

-- the small feed, and stop A as the only origin
abbrev pub example_files : InputFiles
example_files = record {
  feed = small_feed;
  footpaths = None;
  origins = Some from_a;
  opportunities = None;
  destinations = None;
  scenarios = [];
}

-- 08:00 on Monday, 4 May 2026, with the days around it; two rides, no walks, the median, half an hour
pub record IsExampleSettings (s : SettingsData) : Type 0 where
  pub date : IsYmd (pos 2026) (pos 5) (pos 4) s.date
  pub back : s.back ≡ 1
  pub ahead : s.ahead ≡ 1
  pub first : s.first ≡ 480
  pub minutes : s.minutes ≡ 1
  pub rides : s.rides ≡ 2
  pub walk : s.walk ≡ 0
  pub shares : s.shares ≡ 50 ∷ []
  pub withins : s.withins ≡ 1800 ∷ []
  pub workers : s.workers ≡ 1
  pub tries : s.tries ≡ 1
