use Rattle.std.proofs.Common.{ap}
use Rattle.gtfs_tables.proofs.EqualIdentifiers.{times_fault, times_good}
use Rattle.gtfs_tables.specs.Files.{bytes_of, files_of, stops_in, trip_ids_in}
use Rattle.gtfs_tables.proofs.read.times_of.Goals as goal

pub returns-in-Some-clause-good : goal.returns-in-Some-clause-good
returns-in-Some-clause-good c =
    let f = files_of c.args.files.now in
    times_good c.args.trips.now (trip_ids_in f) c.args.stops.now (stops_in f) f.stop_times _ c.requires.trips
    c.requires.stops (ap bytes_of c.in-Some.is) _ c.read_stop_times.ensures.good

pub returns-in-Some-clause-fault : goal.returns-in-Some-clause-fault
returns-in-Some-clause-fault c =
    let f = files_of c.args.files.now in
    times_fault c.args.trips.now (trip_ids_in f) c.args.stops.now (stops_in f) f.stop_times _ c.requires.trips
    c.requires.stops (ap bytes_of c.in-Some.is) _ c.read_stop_times.ensures.fault
