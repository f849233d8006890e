use Rattle.std.proofs.Common.{◌≡◌, ◌<◌, ◌+◌, ◌++◌, ◌∷◌, [], ℕ, List, Option, None, Some, length, get_or, subst, sym, ap}
use Rattle.std.proofs.Common.{arith}
use Rattle.std.specs.List.{slice_get}
use Rattle.std.proofs.lemmas.List.{length-append}
use Rattle.std.proofs.lemmas.Option.{slice_get_within, slice_get-get_or}
use Rattle.timetable.specs.declared.trips.StopNo.{StopNo}
use Rattle.shares.specs.Percentiles.{IsCell}
use Rattle.shares.proofs.MinutesWithinLimits.{cells_at_more}
use Rattle.shares.proofs.percentiles.cells_at.Goals as goal

pub loop-k-preserved : goal.loop-k-preserved
loop-k-preserved c =
    let t = c.args.durations.now in
    let ds = c.args.destinations.now in
    let k = c.loop-k.k in
    let cs = c.loop-k.cells.items in
    let one = c.cell.result in
    let stop : StopNo = get_or ds k (record { 0 = 0 }) in
    let here = slice_get-get_or ds k (record { 0 = 0 }) c.loop-k-test.true in
    let pushed : c.push.new.self.items ≡ cs ++ one ∷ [] = c.in_ok-push.ensures.items in
    let more = cells_at_more t c.args.share ds cs one k stop c.loop-k.invariant.count c.loop-k.invariant.each here
    c.cell.ensures in
    record {
      count = (let len = ap (λ (xs : List (Option ℕ)). length xs) pushed in let app = length-append cs (one ∷ []) in
          omega (arith, len, app, c.loop-k.invariant.count));
      each = subst (λ (xs : List (Option ℕ)). (j : ℕ) (other : StopNo) → j < k + 1 → slice_get ds j ≡ Some other →
          IsCell t c.args.share other.0 (get_or xs j None)) (sym pushed) more;
    }

pub returns : goal.returns
returns c =
    let ds = c.args.destinations.now in
    record {
      count = omega (arith, c.loop-k.invariant.count, c.loop-k-test.false, c.loop-k.auto.k-end);
      each = λ j stop at. c.loop-k.invariant.each j stop (let low = slice_get_within ds j stop at in
          omega (arith, low, c.loop-k-test.false)) at;
    }
