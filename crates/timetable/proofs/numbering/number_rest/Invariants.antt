use Rattle.std.proofs.Common.{◌≢◌, ◌<◌, ℕ, slice_index}
use Rattle.timetable.specs.Numbering.{AreBegun}
use Rattle.timetable.proofs.numbering.number_rest.Given as goal

abbrev pub invariant-loop-stop : goal.invariant-loop-stop
invariant-loop-stop l =
    record {
      begun : AreBegun l.stops l.numbering.numbers.items l.numbering.order.items;
      all : (p : ℕ) → p < l.stop → slice_index l.numbering.numbers.items p ≢ l.stops;
    }
