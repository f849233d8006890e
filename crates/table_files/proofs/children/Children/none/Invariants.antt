use Rattle.std.proofs.Common.{◌≡◌, [], List, map, replicate}
use Rattle.std.specs.declared.vec.Vec.{Vec}
use Rattle.std.specs.declared.alloc.Global.{Global}
use Rattle.timetable.specs.declared.trips.StopNo.{StopNo}
use Rattle.table_files.proofs.children.Children.none.Given as goal

abbrev pub invariant-loop : goal.invariant-loop
invariant-loop l = map (λ (v : Vec StopNo Global). v.items) l.lists.items ≡ replicate {A = List StopNo} l.counter []
