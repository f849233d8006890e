use Rattle.table_files.proofs.PlaceFacts.{no_places}
use Rattle.table_files.proofs.places.PlaceList.new.Goals as goal

pub returns-clause-empty : goal.returns-clause-empty
returns-clause-empty c = no_places _ c.new.ensures c.new-2.ensures c.new-3.ensures c.new-4.ensures.items
    c.new-5.ensures.items
