-- The place of a share among the minutes, and the lists of cells that grow stop by stop.
use Rattle.std.proofs.Common.{List, [], ◌∷◌, ◌++◌, get_or, length, take, sym, ap, subst, inl, inr, ◌∙◌, ◌≡◌, ◌≤◌, ◌<◌}
use Rattle.std.proofs.Common.{◌+◌, ◌*◌, ◌/◌, ◌-◌, ℕ, Option, Some, None, Vec, Global, arith, rules}
use Rattle.std.specs.List.{slice_get}
use Rattle.std.proofs.Math.Seq.{take-append_seam}
use Rattle.std.proofs.Math.ListN.{set, drop}
use Rattle.std.proofs.lemmas.List.{length-append, length-set}
use Rattle.std.proofs.lemmas.Option.{slice_get_within, slice_get-get_or, same_Some}
use Rattle.std.proofs.lemmas.Bool.{cases_lt}
use Rattle.timetable.specs.declared.trips.StopNo.{StopNo}
use Rattle.timetable.proofs.ListsAddedTo.{set_same, set_other}
use Rattle.rounds.specs.Table.{DurationTable, at, known_of, label_in}
use Rattle.shares.specs.Percentiles.{IsCell}
use Rattle.shares.specs.Ranks.{IsLonger, AreLonger}
use Rattle.shares.proofs.MinutesWithinLimits.{cell_alike, cells_at_more}

-- the place of a share among n minutes, counted from 0
pub record Rank (n share place : ℕ) : Type 0 where
  pub there : place < n
  pub low : 100 * place < share * n
  pub high : share * n ≤ 100 * (place + 1)

pub rank_of : (n share : ℕ) → share ≤ 100 → ((share * n + 99) / 100 ≡ 0 → ⊥) → Rank n share ((share * n + 99) / 100 - 1)
rank_of n share few some =
    let product : share * n ≤ 100 * n = search rules in
    record {
      there = omega (arith, product, some);
      low = omega (arith, some);
      high = omega arith;
    }

-- the lists have the cells of the first n destinations
pub record AreBegun (t : DurationTable) (destinations : List StopNo) (shares : List ℕ) (n : ℕ)
    (lists : List (Vec (Option ℕ) Global)) : Type 0 where
  pub count : length lists ≡ length shares
  pub stops : (k : ℕ) (cells : Vec (Option ℕ) Global) → slice_get lists k ≡ Some cells → length cells.items ≡ n
  pub each : (k share : ℕ) (cells : Vec (Option ℕ) Global) → slice_get shares k ≡ Some share →
      slice_get lists k ≡ Some cells →
      (j : ℕ) (stop : StopNo) → j < n → slice_get destinations j ≡ Some stop →
      IsCell t share stop.0 (get_or cells.items j None)

-- the first k lists became longer, and the rest are as they were
pub record AreLongerBelow (lanes : List (List ℕ)) (minutes : ℕ) (shares : List ℕ) (old : List (Vec (Option ℕ) Global))
    (k : ℕ) (lists : List (Vec (Option ℕ) Global)) : Type 0 where
  pub count : length lists ≡ length old
  pub done : (j share : ℕ) (before after : Vec (Option ℕ) Global) → j < k → slice_get shares j ≡ Some share →
      slice_get old j ≡ Some before → slice_get lists j ≡ Some after → IsLonger lanes minutes share before after
  pub rest : (j : ℕ) → k ≤ j → slice_get lists j ≡ slice_get old j

pub longer_next : (lanes : List (List ℕ)) (minutes : ℕ) (shares : List ℕ) (old lists : List (Vec (Option ℕ) Global))
    (k share : ℕ) (was new : Vec (Option ℕ) Global)
    → AreLongerBelow lanes minutes shares old k lists → slice_get lists k ≡ Some was → slice_get shares k ≡ Some share →
    IsLonger lanes minutes share was new
    → AreLongerBelow lanes minutes shares old (k + 1) (set lists k new)
longer_next lanes minutes shares old lists k share was new below here of_share longer = record {
  count = length-set lists k new ∙ below.count;
  done = λ j other before after low of_other of_old of_new. elim (cases_lt j k) [
    | inl l ↦ below.done j other before after l of_other of_old
        (sym (set_other lists k j new (λ e. omega (arith, e, l))) ∙ of_new)
    | inr g ↦
        let same : j ≡ k = omega (arith, low, g) in
        let is_new : new ≡ after = same_Some new after (sym (set_same lists k new (slice_get_within lists k was here))
        ∙ subst (λ (i : ℕ). slice_get (set lists k new) i ≡ Some after) same of_new) in
        let is_was : was ≡ before = same_Some was before (sym here ∙ below.rest k (omega arith)
        ∙ subst (λ (i : ℕ). slice_get old i ≡ Some before) same of_old) in
        let is_share : share ≡ other = same_Some share other (sym of_share
        ∙ subst (λ (i : ℕ). slice_get shares i ≡ Some other) same of_other) in
        subst (λ (s : ℕ). IsLonger lanes minutes s before after) is_share
        (subst (λ (v : Vec (Option ℕ) Global). IsLonger lanes minutes share v after) is_was
        (subst (λ (v : Vec (Option ℕ) Global). IsLonger lanes minutes share was v) is_new longer))
  ];
  rest = λ j above. set_other lists k j new (λ e. omega (arith, e, above)) ∙ below.rest j (omega (arith, above));
}

-- a destination more
pub begun_next : (t : DurationTable) (destinations : List StopNo) (shares : List ℕ) (lanes : List (List ℕ)) (n : ℕ)
    (stop : StopNo) (lists longer : List (Vec (Option ℕ) Global))
    → slice_get destinations n ≡ Some stop → ((m : ℕ) → m < t.minutes → known_of (label_in lanes m) ≡ at t stop.0 m)
    → AreBegun t destinations shares n lists → AreLonger lanes t.minutes shares lists longer →
    AreBegun t destinations shares (n + 1) longer
begun_next t destinations shares lanes n stop lists longer at_n alike begun more = record {
  count = more.count ∙ begun.count;
  stops = λ k cells here.
      let share_there = slice_get-get_or shares k 0 (in_shares k cells here) in
      let old_there = slice_get-get_or lists k cells (in_lists k cells here) in
      let one = more.each k (get_or shares k 0) (get_or lists k cells) cells share_there old_there here in
      let before = begun.stops k (get_or lists k cells) old_there in
      let len = ap (λ (xs : List (Option ℕ)). length xs) one.items in
      let app = length-append (get_or lists k cells).items (one.cell ∷ []) in
      omega (arith, len, app, before);
  each = λ k share cells of_share here j other below at_j.
      let old_there = slice_get-get_or lists k cells (in_lists k cells here) in
      let old : Vec (Option ℕ) Global = get_or lists k cells in
      let one = more.each k share old cells of_share old_there here in
      let is_cell : IsCell t share stop.0 one.cell =
      cell_alike (λ m. known_of (label_in lanes m)) (λ m. at t stop.0 m) t.minutes share one.cell alike one.is_cell
      in
      subst (λ (xs : List (Option ℕ)). IsCell t share other.0 (get_or xs j None)) (sym one.items)
      (cells_at_more t share destinations old.items one.cell n stop (begun.stops k old old_there)
      (begun.each k share old of_share old_there) at_n is_cell j other below at_j);
}
  where
    in_lists : (k : ℕ) (cells : Vec (Option ℕ) Global) → slice_get longer k ≡ Some cells → k < length lists
    in_lists k cells here = let low = slice_get_within longer k cells here in omega (arith, low, more.count)

    in_shares : (k : ℕ) (cells : Vec (Option ℕ) Global) → slice_get longer k ≡ Some cells → k < length shares
    in_shares k cells here = let low = in_lists k cells here in omega (arith, low, begun.count)

-- a list that was lent out as a slice is what was written there
pub written_back : {X : Type 0} (new old : List X) (n : ℕ) → length new ≡ length old → n ≡ length old →
    take n (new ++ drop (length new) old) ≡ new
written_back new old n same long = ap (λ (k : ℕ). take k (new ++ drop (length new) old)) (long ∙ sym same)
    ∙ take-append_seam new (drop (length new) old)
