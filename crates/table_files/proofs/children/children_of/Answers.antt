use Rattle.std.proofs.Common.{◌∙◌, ℕ, map, take, sym, arith}
use Rattle.std.specs.Str.{bytes_eq}
use Rattle.std.specs.declared.vec.Vec.{Vec}
use Rattle.std.specs.declared.alloc.Global.{Global}
use Rattle.table_files.proofs.ChildrenFacts.{length-children_of, no_station_step, no_stops, station_step}
use Rattle.table_files.proofs.ServiceFacts.{found}
use Rattle.table_files.proofs.children.children_of.Goals as goal
use Rattle.table_files.proofs.children.children_of.Goals.{in-Some+in_ok-add, in_default}

pub loop-stop-init : goal.loop-stop-init
loop-stop-init c = rw (c.in_ok-children.ensures, c.len.ensures.len) (sym (no_stops c.args.stations.now))

pub add-requires : goal.add-requires
add-requires c =
    let here = found (bytes_eq c.deref.result.now) c.args.stations.now c.in-Some.station c.in-Some.ensures in
    let count = length-children_of c.args.stations.now
    (map (λ (u : Vec ℕ Global). u.items) (take c.loop-stop.stop c.args.parents.now)) in
    rw (c.loop-stop.invariant, count) here.0

pub loop-stop-preserved : goal.loop-stop-preserved
loop-stop-preserved c = elim c.match-number.branch [
  | in-Some+in_ok-add w ↦
      let (x, at, put) = w.in_ok-add.ensures in
      station_step c.args.stations.now c.args.parents.now c.loop-stop.stop w.in-Some.station c.index-parents-stop.result
      c.deref.result.now c.loop-stop.children c.match-number.children x
      (omega arith) c.index-parents-stop.is c.deref.ensures.value c.loop-stop.invariant
      w.in-Some.ensures at (w.children-is ∙ put)
  | in_default w ↦
      no_station_step c.args.stations.now c.args.parents.now c.loop-stop.stop c.index-parents-stop.result
      c.deref.result.now c.loop-stop.children c.match-number.children
      (omega arith) c.index-parents-stop.is c.deref.ensures.value c.loop-stop.invariant w.in_default.ensures
      w.children-is
]
