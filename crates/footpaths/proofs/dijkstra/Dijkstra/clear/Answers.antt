use Rattle.std.proofs.Common.{◌≡◌, ◌<◌, ◌⊎◌, ℕ, List, length, get_or, rules, ◌∙◌, subst}
use Rattle.std.proofs.lemmas.List.{with_items_is, length-set}
use Rattle.std.specs.List.{All}
use Rattle.std.proofs.lemmas.List.Elements.{Contains-get_or}
use Rattle.footpaths.specs.Dijkstra.{marks}
use Rattle.footpaths.proofs.ReachedStops.{labels_taken_back}
use Rattle.footpaths.proofs.dijkstra.Dijkstra.clear.Goals as goal

pub forget-requires : goal.forget-requires
forget-requires c =
    let all : All (λ stop. stop < length c.args.self.now.labels.items) c.args.self.now.touched.items =
    λ k d below. (c.requires.touched.1.reached _ (Contains-get_or c.args.self.now.touched.items k d below)).0 in
    rw (c.deref.ensures.value, c.deref_mut.ensures.value) all

pub returns : goal.returns
returns c =
    let labels = c.args.self.now.labels.items in
    let news = c.forget.new.labels in
    let same : length news ≡ length labels = search rules in
    let whole = with_items_is c.args.self.now.labels news (search rules) in
    let source = c.args.source.0 in
    let forgotten : All (λ stop. get_or news stop 0 ≡ 4294967295) c.args.self.now.touched.items =
    subst (All (λ stop. get_or news stop 0 ≡ 4294967295)) c.deref.ensures.value c.forget.ensures.forgotten in
    let others : (p : ℕ) → (get_or news p 0 ≡ get_or labels p 0) ⊎ (get_or news p 0 ≡ 4294967295) =
    subst (λ (ls : List ℕ). (p : ℕ) → (get_or news p 0 ≡ get_or ls p 0)
    ⊎ (get_or news p 0 ≡ 4294967295)) c.deref_mut.ensures.value c.forget.ensures.others in
    record {
      count = rw whole (length-set news source 4294967295 ∙ same);
      never = rw whole (labels_taken_back source c.requires.touched.0 (marks c.args.self.now) news c.requires.source
          same c.requires.touched.1 forgotten others);
      touched = c.clear.ensures.items;
      noted = c.requires.noted;
    }
