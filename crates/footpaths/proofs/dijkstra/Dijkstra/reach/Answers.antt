use Rattle.std.proofs.Common.{◌≡◌, ◌<◌, ◌-◌, ◌∷◌, [], ℕ, List, length, rules, arith, sym, ◌∙◌, subst}
use Rattle.std.specs.BinaryHeap.{heap_items}
use Rattle.std.specs.List.{All}
use Rattle.std.specs.List.Sorted.{IsPermutation}
use Rattle.std.proofs.lemmas.List.{get_or_default}
use Rattle.std.proofs.lemmas.List.Elements.{All-same}
use Rattle.timetable.specs.declared.trips.StopNo.{StopNo}
use Rattle.footpaths.specs.Adjacency.{part}
use Rattle.footpaths.specs.Dijkstra.{Marks, marks, PassedOn}
use Rattle.footpaths.proofs.DijkstraAsAWhole.{started, note_taken, note_dropped, note_served, all_shortest}
use Rattle.footpaths.proofs.dijkstra.Dijkstra.reach.Goals as goal

pub loop-left-init : goal.loop-left-init
loop-left-init c =
    let moved : IsPermutation ((c.args.limit, c.args.source.0) ∷ []) (heap_items c.push.new.self) =
    subst (λ (hs : List (ℕ × ℕ)). IsPermutation ((c.args.limit, c.args.source.0) ∷ hs) (heap_items c.push.new.self))
    c.requires.fresh.noted c.in_ok-push.ensures.permutation in
    rw c.requires.fresh.touched
    (started (part c.args.footpaths.now) (length c.args.self.now.labels.items) c.args.source.0 c.args.limit
    (marks c.args.self.now) (heap_items c.push.new.self)
    c.requires.limit c.requires.source c.requires.fresh moved)

pub overflow_sub-label : goal.overflow_sub-label
overflow_sub-label c =
    (note_taken (part c.args.footpaths.now) (length c.args.self.now.labels.items) c.args.source.0 c.args.limit
    (marks c.loop-left.self) (heap_items c.pop.new.self)
    (c.in-Some.left, c.in-Some.stop) c.in-Some.ensures.permutation c.loop-left.invariant).0

pub index-requires : goal.index-requires
index-requires c =
    let taken = note_taken (part c.args.footpaths.now) (length c.args.self.now.labels.items) c.args.source.0
    c.args.limit (marks c.loop-left.self) (heap_items c.pop.new.self)
    (c.in-Some.left, c.in-Some.stop) c.in-Some.ensures.permutation c.loop-left.invariant in
    let below = taken.1 in
    let count = c.loop-left.invariant.count in
    search rules

pub leaving-requires-clause-stop : goal.leaving-requires-clause-stop
leaving-requires-clause-stop c =
    let taken = note_taken (part c.args.footpaths.now) (length c.args.self.now.labels.items) c.args.source.0
    c.args.limit (marks c.loop-left.self) (heap_items c.pop.new.self)
    (c.in-Some.left, c.in-Some.stop) c.in-Some.ensures.permutation c.loop-left.invariant in
    let below = taken.1 in
    let count = c.requires.footpaths.count in
    omega (arith, below, count)

pub pass_on-requires-clause-leaving : goal.pass_on-requires-clause-leaving
pass_on-requires-clause-leaving c =
    let stops = length c.args.self.now.labels.items in
    let taken = note_taken (part c.args.footpaths.now) stops c.args.source.0 c.args.limit (marks c.loop-left.self)
    (heap_items c.pop.new.self)
    (c.in-Some.left, c.in-Some.stop) c.in-Some.ensures.permutation c.loop-left.invariant in
    let all = All-same (λ (footpath : StopNo × ℕ). footpath.0.0
    < stops) c.leaving.result.now (part c.args.footpaths.now c.in-Some.stop) c.leaving.ensures
    (c.requires.footpaths.targets c.in-Some.stop taken.1) in
    subst (λ (n : ℕ). All (λ (footpath : StopNo × ℕ). footpath.0.0 < n) c.leaving.result.now)
    (sym c.loop-left.invariant.count) all

pub loop-left-preserved-in-Continue-branch-2 : goal.loop-left-preserved-in-Continue-branch-2
loop-left-preserved-in-Continue-branch-2 c =
    let leaving = part c.args.footpaths.now in
    let stops = length c.args.self.now.labels.items in
    let m = marks c.loop-left.self in
    let ks = heap_items c.pop.new.self in
    let taken = note_taken leaving stops c.args.source.0 c.args.limit m ks (c.in-Some.left, c.in-Some.stop)
    c.in-Some.ensures.permutation c.loop-left.invariant in
    let at = c.index.ensures ∙ get_or_default m.labels c.in-Some.stop c.index.result.now 0
    (rw c.loop-left.invariant.count taken.1) in
    let now : Marks = record { labels = m.labels; touched = m.touched; noted = ks } in
    let passed : PassedOn c.args.limit (c.args.limit - c.in-Some.left) (leaving c.in-Some.stop) now
    (marks c.pass_on.new.self) =
    subst (λ (ls : List (StopNo × ℕ)). PassedOn c.args.limit (c.args.limit - c.in-Some.left) ls now
    (marks c.pass_on.new.self)) c.leaving.ensures c.in_ok-pass_on.ensures in
    note_served leaving stops c.args.source.0 c.args.limit m (marks c.pass_on.new.self) ks
    (c.in-Some.left, c.in-Some.stop) c.in-Some.ensures.permutation c.loop-left.invariant
    (c.if-label-index.true ∙ at) passed

pub loop-left-preserved : goal.loop-left-preserved
loop-left-preserved c =
    let leaving = part c.args.footpaths.now in
    let stops = length c.args.self.now.labels.items in
    let m = marks c.loop-left.self in
    let ks = heap_items c.pop.new.self in
    let taken = note_taken leaving stops c.args.source.0 c.args.limit m ks (c.in-Some.left, c.in-Some.stop)
    c.in-Some.ensures.permutation c.loop-left.invariant in
    let at = c.index.ensures ∙ get_or_default m.labels c.in-Some.stop c.index.result.now 0
    (rw c.loop-left.invariant.count taken.1) in
    let other = c.if-label-index.false in
    note_dropped leaving stops c.args.source.0 c.args.limit m ks (c.in-Some.left, c.in-Some.stop)
    c.in-Some.ensures.permutation c.loop-left.invariant (λ e. other (e ∙ sym at))

pub returns : goal.returns
returns c =
    let none : length (heap_items c.loop-left.self.noted) ≡ 0 = search rules in
    let left : length (heap_items c.pop.new.self) ≡ 0 = search rules in
    all_shortest (part c.args.footpaths.now) (length c.args.self.now.labels.items) c.args.source.0 c.args.limit
    (marks c.loop-left.self) c.sort_unstable.new.self.items (heap_items c.pop.new.self)
    c.requires.footpaths.targets c.requires.source none left c.loop-left.invariant c.sort_unstable.ensures.permutation
    c.sort_unstable.ensures.sorted
