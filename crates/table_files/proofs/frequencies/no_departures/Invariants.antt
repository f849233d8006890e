use Rattle.std.proofs.Common.{◌≡◌, ◌<◌, ℕ, [], length, get_or}
use Rattle.std.specs.declared.vec.Vec.{Vec}
use Rattle.std.specs.declared.alloc.Global.{Global}
use Rattle.table_files.specs.declared.frequencies.Departures.{Departures}
use Rattle.table_files.proofs.frequencies.no_departures.Given as goal

abbrev pub invariant-loop : goal.invariant-loop
invariant-loop l = (length l.trips.items ≡ l.counter)
    × ((t : ℕ) (d : Vec Departures Global) → t < l.counter → (get_or l.trips.items t d).items ≡ [])
