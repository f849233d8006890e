use Rattle.std.proofs.Common.{◌≡◌, [], All, length}
use Rattle.to_here.specs.Row.{AreFronts, IsOriginOf}
use Rattle.to_here.proofs.row.begin_row.Given as goal

abbrev pub invariant-loop : goal.invariant-loop
invariant-loop l =
    record {
      count : length l.row.items ≡ l.counter;
      origins : All (IsOriginOf l.window) l.row.items;
      fronts : AreFronts l.window [] (λ o. []) l.row.items;
    }
