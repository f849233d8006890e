use Rattle.std.proofs.Common.{◌≡◌, ◌<◌, ℕ, length, slice_index, take}
use Rattle.footpaths.specs.Changes.{change_of}
use Rattle.footpaths.proofs.changes.raise_all.Given as goal

abbrev pub invariant-loop-link : goal.invariant-loop-link
invariant-loop-link l =
    record {
      same : length l.changes ≡ length l.feed.stops;
      each : (p : ℕ) → p < length l.changes → slice_index l.changes p
          ≡ change_of l.feed.children (take l.link-index l.link-items) p;
    }
