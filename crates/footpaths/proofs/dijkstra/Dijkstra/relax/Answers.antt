use Rattle.std.proofs.Common.{◌≡◌, ◌<◌, ◌-◌, ◌∷◌, ℕ, get_or, sym, ◌∙◌, subst}
use Rattle.std.specs.BinaryHeap.{heap_items}
use Rattle.std.specs.List.Sorted.{IsPermutation}
use Rattle.std.proofs.lemmas.List.{get_or_default}
use Rattle.footpaths.specs.declared.dijkstra.Dijkstra.{Dijkstra}
use Rattle.footpaths.specs.Dijkstra.{marks}
use Rattle.footpaths.proofs.DijkstraSteps.{relaxed_first, relaxed_again}
use Rattle.footpaths.proofs.dijkstra.Dijkstra.relax.Goals as goal
use Rattle.footpaths.proofs.dijkstra.Dijkstra.relax.Goals.{then-old+in_ok-push, else-old}

pub returns-in_ok-push-2 : goal.returns-in_ok-push-2
returns-in_ok-push-2 c =
    let stop = c.args.stop.0 in
    let label = c.args.label in
    let limit = c.args.limit in
    let old = marks c.args.self.now in
    let ks = heap_items c.push-then-label-old.new.self in
    let at : c.index-old.result.now ≡ get_or old.labels stop 0 =
    c.index-old.ensures ∙ get_or_default old.labels stop c.index-old.result.now 0 c.requires.stop in
    let less : label < get_or old.labels stop 0 = subst (λ (n : ℕ). label < n) at c.if-label-old.true in
    let moved = λ (s : Dijkstra) (e : c.if-old.self
    ≡ s). subst (λ (t : Dijkstra). IsPermutation ((limit - label, stop) ∷ heap_items t.noted) ks) e
    c.in_ok-push-2.ensures.permutation in
    elim c.if-old.branch [
      | then-old+in_ok-push w ↦ rw (w.self-is, w.in_ok-push.ensures.items)
          (relaxed_first limit stop label old ks c.requires.stop c.requires.label c.requires.limit (sym at
          ∙ w.if-old.true) (moved _ w.self-is))
      | else-old w ↦ rw w.self-is
          (relaxed_again limit stop label old ks c.requires.stop c.requires.label (λ never. w.if-old.false (at ∙ never))
          less (moved _ w.self-is))
    ]
