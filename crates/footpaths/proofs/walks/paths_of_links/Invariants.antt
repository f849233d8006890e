use Rattle.std.proofs.Common.{◌≡◌, [], length, take, drop}
use Rattle.footpaths.specs.Changes.{change_times}
use Rattle.footpaths.specs.Walks.{link_faults, pairs_of_links}
use Rattle.footpaths.proofs.walks.paths_of_links.Given as goal

abbrev pub invariant-loop-link : goal.invariant-loop-link
invariant-loop-link l =
    record {
      lists : l.direct ≡ record {
        stops = length l.feed.stops;
        pairs = pairs_of_links l.feed.children (take l.link-index l.link-items);
        changes = change_times l.feed;
      };
      faults : link_faults l.feed.children (take l.link-index l.link-items) (drop l.link-index l.link-items)
          ≡ link_faults l.feed.children [] l.link-items;
    }
