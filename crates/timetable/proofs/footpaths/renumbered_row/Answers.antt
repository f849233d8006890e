use Rattle.std.proofs.Common.{rules, ◌≡◌, ℕ, List, map, take, subst, ◌∙◌, ap, arith}
use Rattle.std.proofs.lemmas.List.{take_all}
use Rattle.std.proofs.lemmas.List.Sorted.{IsNonDecreasingBy-from_sort_by_key}
use Rattle.std.specs.List.Sorted.{IsPermutation}
use Rattle.timetable.specs.declared.trips.StopNo.{StopNo}
use Rattle.timetable.specs.Numbering.{number_in}
use Rattle.timetable.specs.Renumbering.{renumbered_walk}
use Rattle.timetable.proofs.footpaths.renumbered_row.Goals as goal

pub returns : goal.returns
returns c =
    let row = c.args.row.now in
    let all : take c.loop-to.to-index row ≡ row = take_all c.loop-to.to-index row (omega arith) in
    let made = c.loop-to.invariant ∙ ap (map (renumbered_walk (number_in c.args.numbers.now))) all in
    record {
      walks = subst (λ (xs : List (StopNo × ℕ)). IsPermutation xs c.sort_unstable_by_key.new.self.items) made
          c.sort_unstable_by_key.ensures.permutation;
      sorted = IsNonDecreasingBy-from_sort_by_key (λ (x : StopNo × ℕ). x.0.0) _ c.sort_unstable_by_key.ensures.sorted
          (λ a r q k. search rules);
    }
