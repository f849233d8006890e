use Rattle.std.proofs.Common.{◌≡◌, ◌≤◌, ◌*◌, take}
use Rattle.shares.specs.Opportunities.{access_of}
use Rattle.shares.proofs.opportunities.access.Given as goal

abbrev pub invariant-loop-i : goal.invariant-loop-i
invariant-loop-i l = record {
  sum : l.sum ≡ access_of (take l.i l.cells) (take l.i l.opportunities) l.within;
  bound : l.sum ≤ l.i * 4294967295;
}
