use Rattle.std.proofs.Common.{◌≡◌, [], ◌∷◌, ◌++◌, ◌∙◌, ℕ, List, Some, ap, slice_get}
use Rattle.timetable.specs.declared.trips.StopNo.{StopNo}
use Rattle.rounds.proofs.WalksListed.{walks_listed}
use Rattle.rounds.proofs.labels.fill_walks.Goals as goal

pub returns : goal.returns
returns c =
    let row = c.leaving.result.now in
    let here : StopNo × ℕ = (c.args.origin, 0) in
    let pushed : c.push.new.self.items ≡ here ∷ [] =
    c.in_ok-push.ensures.items ∙ ap (λ (xs : List (StopNo × ℕ)). xs ++ here ∷ []) c.clear.ensures.items in
    let listed : c.extend_from_slice.new.self.items ≡ here ∷ row =
    c.in_ok-extend_from_slice.ensures.items ∙ ap (λ (xs : List (StopNo × ℕ)). xs ++ row) pushed in
    let leaving : slice_get c.args.network.now.feet.walks c.args.origin.0 ≡ Some row =
    rw (← c.feet.ensures) c.leaving.ensures in
    walks_listed c.args.network.now c.args.origin.0 row leaving c.extend_from_slice.new.self.items listed
