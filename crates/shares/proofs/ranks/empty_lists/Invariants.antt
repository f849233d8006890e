use Rattle.std.proofs.Common.{◌≡◌, [], Option, ℕ, Vec, Global, length}
use Rattle.std.specs.List.{All}
use Rattle.shares.proofs.ranks.empty_lists.Given as goal

abbrev pub invariant-loop : goal.invariant-loop
invariant-loop l = record {
  count : length l.lists.items ≡ l.counter;
  each : All (λ (v : Vec (Option ℕ) Global). v.items ≡ []) l.lists.items;
}
