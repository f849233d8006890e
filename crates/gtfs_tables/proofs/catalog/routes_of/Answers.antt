use Rattle.std.proofs.Common.{ap}
use Rattle.gtfs_tables.specs.Files.{bytes_of}
use Rattle.gtfs_tables.proofs.catalog.routes_of.Goals as goal

pub returns-in-Some-clause-good : goal.returns-in-Some-clause-good
returns-in-Some-clause-good c = rw (ap bytes_of c.in-Some.is) c.read_routes.ensures.good

pub returns-in-Some-clause-few : goal.returns-in-Some-clause-few
returns-in-Some-clause-few c = c.read_routes.ensures.few

pub returns-in-Some-clause-fault : goal.returns-in-Some-clause-fault
returns-in-Some-clause-fault c = rw (ap bytes_of c.in-Some.is) c.read_routes.ensures.fault
