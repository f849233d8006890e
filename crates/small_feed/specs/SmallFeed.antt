-- The bytes of the small feed.
use Rattle.std.specs.Prelude.{ℕ, List, ◌++◌, Some, None, codes}
use Rattle.gtfs_tables.specs.Files.{FeedFiles}

-- stop A as the only origin
abbrev pub from_a : List ℕ
from_a = codes "stop_id\nA\n"

-- trip T1 goes from A to B, and T2 from B to C, on Mondays in May 2026
abbrev pub small_feed : FeedFiles
small_feed = record {
  stops = Some (codes "stop_id,stop_name\nA,Alpha\nB,Beta\nC,Gamma\n");
  routes = Some (codes "route_id\nR1\nR2\n");
  calendar = Some
      (codes "service_id,monday,tuesday,wednesday,thursday,friday,saturday,sunday,start_date,end_date\n"
      ++ codes "MON,1,0,0,0,0,0,0,20260504,20260531\n");
  calendar_dates = None;
  trips = Some (codes "route_id,service_id,trip_id\nR1,MON,T1\nR2,MON,T2\n");
  stop_times = Some
      (codes "trip_id,arrival_time,departure_time,stop_id,stop_sequence\n"
      ++ codes "T1,08:00:00,08:00:00,A,1\nT1,08:10:00,08:10:00,B,2\n"
      ++ codes "T2,08:15:00,08:15:00,B,1\nT2,08:30:00,08:30:00,C,2\n");
  frequencies = None;
  transfers = None;
}
