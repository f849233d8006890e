use Rattle.std.proofs.Common.{◌<◌, ℕ, ◌+◌, ◌∙◌, List, [], slice_index, slice_index_or, sym, ap, subst}
use Rattle.std.proofs.Common.{arith}
use Rattle.std.proofs.lemmas.List.{get_or_default}
use Rattle.timetable.proofs.RenumberedJourneys.{labels_stay}
use Rattle.timetable.specs.Lines.{LineTable}
use Rattle.timetable.specs.Networks.{IsNet, Net}
use Rattle.timetable.specs.Numbering.{number_in}
use Rattle.rounds.specs.LatestFirst.{DepartureSearch, IsLaneDuration, IsSearchIn}
use Rattle.rounds.specs.declared.latest_first.Progress.{Progress}
use Rattle.rounds.proofs.latest_first.LatestFirst.lanes_of.Goals as goal

-- the durations at the number of a stop are those of the stop
of_stop : (s : DepartureSearch) (numbers : List ℕ) (m : Net) (lines : LineTable) (w : Progress) → IsNet s.net →
    IsSearchIn s numbers m lines w → (p l : ℕ) → p < s.net.stops → l < 16 →
    IsLaneDuration s p l (slice_index (slice_index_or w.durations.items (slice_index numbers p) []) l)
of_stop s numbers m lines w ok is p l there h =
    let low = is.low p there in
    let found = is.under_way.found (slice_index numbers p) l (omega (arith, low, is.stops)) h in
    record {
      used = λ within.
          (labels_stay (number_in numbers) s.net m s.origin (slice_index s.times (s.from + l)) s.rides p
          (slice_index (slice_index_or w.durations.items (slice_index numbers p) []) l) ok is.renumbered is.origin
          there).1 (found.used within);
      unused = found.unused;
    }

pub returns : goal.returns
returns c l h =
    let s = c.self.inside in
    let p = c.args.stop.0 in
    let is = c.self.invariant in
    let there : p < s.network.now.stops = omega (
      arith,
      c.requires,
      ap (λ (t : DepartureSearch). t.net.stops) c.self.view_is,
    ) in
    let low = is.low p there in
    let number = slice_index s.numbers.now p in
    let row = c.index.ensures
    ∙ get_or_default s.progress.durations.items number c.index.result.now [] (omega (
      arith,
      low,
      is.stops,
      is.under_way.rows,
    )) in
    let search : DepartureSearch = record {
      net = s.network.now;
      origin = s.origin.0;
      times = s.times.now;
      rides = s.rides;
      from = s.from;
    } in
    subst (λ (t : DepartureSearch). IsLaneDuration t p l (slice_index c.index.result.now l)) c.self.view_is
    (subst (λ (r : List ℕ). IsLaneDuration search p l (slice_index r l)) (sym row)
    (of_stop search s.numbers.now s.renumbered s.lines.now s.progress c.known.ensures is p l there h))
