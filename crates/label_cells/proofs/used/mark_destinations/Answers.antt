use Rattle.std.proofs.Common.{◌<◌, ◌/◌, ℕ, true, length, slice_index, ◌∙◌, arith}
use Rattle.std.proofs.lemmas.List.{length-set}
use Rattle.std.proofs.lemmas.List.Elements.{All-get_or}
use Rattle.timetable.specs.declared.trips.StopNo.{StopNo}
use Rattle.label_cells.specs.Groups.{stop_at}
use Rattle.label_cells.proofs.UsedGroups.{mark_one, still_used}
use Rattle.label_cells.proofs.used.mark_destinations.Goals as goal

pub loop-k-preserved : goal.loop-k-preserved
loop-k-preserved c =
    let was = c.loop-k.invariant in
    let numbers = c.args.numbers.now in
    let stops = c.args.destinations.now in
    let k = c.loop-k.k in
    let q : ℕ → ℕ = λ j. slice_index numbers (stop_at stops j) in
    let stop = All-get_or (λ (s : StopNo). s.0 < length numbers) stops k (record { 0 = 0 }) c.loop-k-test.true
    c.requires.stops in
    let within = c.requires.numbers (stop_at stops k) stop in
    record {
      same = length-set c.loop-k.used (q k / 16) true ∙ was.same;
      marked = λ j l. mark_one c.loop-k.used q k (omega (arith, within, was.same)) was.marked j l;
      kept = λ p is. still_used c.loop-k.used (q k / 16) p (omega (arith, within, was.same)) (was.kept p is);
    }
