use Rattle.std.proofs.Common.{replicate, arith}
use Rattle.std.proofs.lemmas.List.{ext_get_or}
use Rattle.timetable.specs.declared.least.TheConstants.{NEVER}
use Rattle.rounds.proofs.latest_first.no_durations.Goals as goal

pub returns : goal.returns
returns c =
    c.in_ok-vec.ensures.items_if_clones_equal (λ y h.
    ext_get_or 0 y (replicate 16 NEVER) h.long (λ i l. h.at i 0 0 (omega (arith, l, h.long))))
