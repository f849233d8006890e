-- A study: the networks of its scenarios, the origins, what each stop counts for, and what is asked of every network.
use Rattle.std.specs.Prelude.{◌≡◌, ℕ, Bool, ◌&&◌, nat_le, ◌<◌, ◌≤◌, List, length, All}
use Rattle.std.specs.List.Sorted.{IsStrictlyIncreasing}
use Rattle.timetable.specs.declared.trips.StopNo.{StopNo}
use Rattle.timetable.specs.declared.limits.TheConstants.{MOST_STOPS}
use Rattle.timetable.specs.Networks.{Net}
use Rattle.rounds.specs.declared.window.Window.{Window}
use Rattle.rounds.specs.Window.{Fits}
use Rattle.workers.specs.declared.study.Study.{Study}
use Rattle.rounds.specs.declared.window.TheConstants.{MOST_RIDES}
use Rattle.workers.specs.declared.study.TheConstants.{MOST_SCENARIOS, MOST_SHARES, MOST_LIMITS}

-- what is asked of a network: the departures, the most rides, the shares of minutes, the limits of reach, and the
-- destinations, whose cells a row has
pub record Query : Type 0 where
  pub window : Window
  pub rides : ℕ
  pub shares : List ℕ
  pub limits : List ℕ
  pub destinations : List StopNo

-- a study as plain data
pub record StudyData : Type 0 where
  pub number : ℕ
  pub networks : List Net
  pub origins : List StopNo
  pub opportunities : List ℕ
  pub query : Query

-- what a study asks of every network
abbrev pub query_of : Study → Query
query_of s = record {
  window = s.window;
  rides = s.rides;
  shares = s.shares.now;
  limits = s.withins.now;
  destinations = s.destinations.now;
}

-- the data of a study
abbrev pub study_of : Study → StudyData
study_of s = record {
  number = s.number;
  networks = s.networks.now;
  origins = s.origins.now;
  opportunities = s.opportunities.now;
  query = query_of s;
}

-- a share is of a hundred minutes
abbrev pub is_share : ℕ → Bool
is_share n = nat_le 1 n && nat_le n 100

-- shares to ask for: some, few, each above the one before, and all of a hundred minutes
pub record SharesFit (shares : List ℕ) : Type 0 where
  pub some : 1 ≤ length shares
  pub few : length shares ≤ MOST_SHARES
  pub rising : IsStrictlyIncreasing shares
  pub each : All (λ share. (1 ≤ share) × (share ≤ 100)) shares

-- limits to ask for: some, few, and each above the one before
pub record LimitsFit (limits : List ℕ) : Type 0 where
  pub some : 1 ≤ length limits
  pub few : length limits ≤ MOST_LIMITS
  pub rising : IsStrictlyIncreasing limits

-- the study is within the limits, and its networks, origins, destinations and opportunities are of the same stops
pub record StudyFits (s : StudyData) : Type 0 where
  pub few_networks : length s.networks ≤ MOST_SCENARIOS
  pub stops : All (λ n. n.stops ≡ length s.opportunities) s.networks
  pub few_origins : length s.origins ≤ MOST_STOPS
  pub origins : All (λ o. o.0 < length s.opportunities) s.origins
  pub few_destinations : length s.query.destinations ≤ MOST_STOPS
  pub destinations : All (λ o. o.0 < length s.opportunities) s.query.destinations
  pub window : Fits s.query.window
  pub some_rides : 1 ≤ s.query.rides
  pub few_rides : s.query.rides ≤ MOST_RIDES
  pub shares : SharesFit s.query.shares
  pub limits : LimitsFit s.query.limits
