-- What a file of stop times gives for two lists of identifiers, it gives for lists that equal them.
use Rattle.std.proofs.Common.{◌≡◌, ℕ, List, [], Option, Some, IfOk, IfErr, sym}
use Rattle.std.specs.declared.result.Result.{Result}
use Rattle.table_records.specs.Faults.{Tells}
use Rattle.table_records.specs.declared.fault.FeedFault.{FeedFault}
use Rattle.table_records.specs.declared.fault.FileName.TheVariants.{StopTimes}
use Rattle.trip_events.specs.StopTimes.{time_faults, time_rows, trip_events, trips_aside}
use Rattle.trip_events.specs.declared.whole_trips.StopTimes as whole
use Rattle.gtfs_tables.specs.Files.{required, rows_in}

module _ (trips ids stops names : List (List ℕ)) (file : Option (List ℕ)) (bytes : List ℕ) (same_trips : trips
    ≡ ids) (same_stops : stops ≡ names) (is : file ≡ Some bytes) where
  pub times_good : (r : Result whole.StopTimes FeedFault)
      → IfOk r (λ t. (time_faults trips stops bytes ≡ []) × (t.trips.items ≡ trip_events trips stops (time_rows bytes))
      × (t.aside ≡ trips_aside trips (time_rows bytes)))
      → IfOk r (λ t. (required StopTimes (time_faults ids names) file ≡ [])
      × (t.trips.items ≡ trip_events ids names (rows_in time_rows file))
      × (t.aside ≡ trips_aside ids (rows_in time_rows file)))
  times_good r h = rw (sym same_trips, sym same_stops, is) h

  pub times_fault : (r : Result whole.StopTimes FeedFault)
      → IfErr r (λ e. Tells e (time_faults trips stops bytes))
      → IfErr r (λ e. Tells e (required StopTimes (time_faults ids names) file))
  times_fault r h = rw (sym same_trips, sym same_stops, is) h
