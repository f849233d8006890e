use Rattle.std.proofs.Common.{◌≡◌, ap, sym, ◌∙◌, subst, List, Option}
use Rattle.collector.specs.Row.{RowData}
use Rattle.collector.specs.Places.{PlacesData, AreFull}
use Rattle.collector.proofs.Present.{all_present}
use Rattle.collector.proofs.places.Collector.finish.Goals as goal

pub returns-in-None-clause-full : goal.returns-in-None-clause-full
returns-in-None-clause-full c =
    let rows : c.self.inside.places.items ≡ c.args.self.rows = ap (λ (p : PlacesData). p.rows) c.self.view_is in
    let full : AreFull c.self.inside.places.items =
    subst (λ (l : List (Option RowData)). AreFull l) (sym rows) c.in-None.ensures in
    record {
      scenarios = ap (λ (p : PlacesData). p.scenarios) c.self.view_is;
      origins = ap (λ (p : PlacesData). p.origins) c.self.view_is;
      width = ap (λ (p : PlacesData). p.width) c.self.view_is;
      shares = ap (λ (p : PlacesData). p.shares) c.self.view_is;
      limits = ap (λ (p : PlacesData). p.limits) c.self.view_is;
      rows = sym rows ∙ all_present c.self.inside.places.items full;
    }
