use Rattle.table_files.proofs.places.PlaceList.into_places.Goals as goal

pub returns : goal.returns
returns c =
    let children = rw c.deref.ensures.value at c.in_ok-children.ensures in
    λ k. record {
      names = c.args.self.names;
      stops = c.args.self.stops;
      stations = c.args.self.stations;
      places = c.args.self.places.items;
      children = children k;
    }
