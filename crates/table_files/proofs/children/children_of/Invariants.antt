use Rattle.std.proofs.Common.{◌≡◌, ℕ, map, take}
use Rattle.std.specs.declared.vec.Vec.{Vec}
use Rattle.std.specs.declared.alloc.Global.{Global}
use Rattle.table_files.specs.Children.{children_of}
use Rattle.table_files.proofs.children.children_of.Given as goal

abbrev pub invariant-loop-stop : goal.invariant-loop-stop
invariant-loop-stop l = l.children ≡ children_of l.stations
    (map (λ (v : Vec ℕ Global). v.items) (take l.stop l.parents))
