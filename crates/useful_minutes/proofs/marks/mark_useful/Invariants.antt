use Rattle.std.proofs.Common.{ℕ, ◌<◌}
use Rattle.useful_minutes.specs.Marks.{CoversLine, Grows}
use Rattle.useful_minutes.proofs.marks.mark_useful.Given as goal

abbrev pub invariant-loop-line : goal.invariant-loop-line
invariant-loop-line v =
    record {
      grows : Grows v.fn.marks v.marks;
      covers : (k : ℕ) → k < v.line → CoversLine v.network v.fn.origin.0 v.fn.first v.lines.lines v.marks k;
    }
