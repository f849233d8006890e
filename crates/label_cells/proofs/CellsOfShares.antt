-- Cells by rank are the cells and the access of a table of durations, for each share.
use Rattle.std.proofs.Common.{◌≡◌, ◌≢◌, ◌<◌, ◌+◌, ◌*◌, ◌/◌, ℕ, Bool, List, Option, None, length}
use Rattle.std.proofs.Common.{slice_index, slice_index_or, ap, sym, subst, ◌∙◌, arith}
use Rattle.std.specs.List.{All}
use Rattle.std.proofs.lemmas.List.Elements.{All-get_or}
use Rattle.std.proofs.lemmas.Option.{slice_get_within, get_or_from_slice_get}
use Rattle.timetable.specs.declared.trips.StopNo.{StopNo}
use Rattle.rounds.specs.Table.{DurationTable, at, known_of, IsLeastOrNone}
use Rattle.shares.specs.Percentiles.{AreCellsAt, Attains, IsCell}
use Rattle.shares.specs.Opportunities.{IsAccess, counted}
use Rattle.shares.proofs.CellsUnique.{cell_unique}
use Rattle.shares.proofs.MinutesWithinLimits.{cell_alike}
use Rattle.label_cells.specs.declared.share_cells.Question.{Question}
use Rattle.label_cells.specs.declared.share_cells.ShareCells.{ShareCells}
use Rattle.rounds.specs.declared.labels.WindowLabels.{WindowLabels}
use Rattle.rounds.specs.Labels.{AreWindowLabels, Represent, least_walk, lesser}
use Rattle.label_cells.specs.Durations.{IsCellOf}
use Rattle.label_cells.specs.Groups.{AreRankCells, cell_at, is_used, stop_at}
use Rattle.label_cells.specs.ShareCells.{AreOfRanks, ArePicked, AreRanks, AreShareCells, AreStopCells}
use Rattle.label_cells.specs.ShareCells.{IsOfRank}
use Rattle.label_cells.specs.Sums.{sum_to}
use Rattle.label_cells.proofs.AccessByStop.{access_is_sum, counted_same}
use Rattle.label_cells.proofs.SharesByRank.{cell_for_share}
use Rattle.label_cells.proofs.SumsOfPlaces.{sum_same}

module _ (w : WindowLabels) (q : Question) (t : DurationTable) (good : AreWindowLabels w) (means : Represent w t)
    (used : List Bool) (ranks : List ℕ) (cells : List (List ℕ)) (ranked : AreRanks w.minutes q.shares.now ranks)
    (are : AreRankCells w used ranks cells) where
  -- the cell of a stop in a used group
  stop_cell : (p k share : ℕ) → p < length w.numbers.now → is_used used (slice_index w.numbers.now p) → k < length
      ranks →
      slice_index q.shares.now k ≡ share →
      IsCell t share p (known_of (cell_at (length ranks) cells (slice_index w.numbers.now p) k))
  stop_cell p k share less is in_ranks of_share =
      let number = slice_index w.numbers.now p in
      let n = w.minutes in
      let walk = least_walk w.walks.now number (length w.walks.now) in
      let cell = known_of (cell_at (length ranks) cells number k) in
      let in_table : p < t.stops = (let s = means.stops in omega (arith, s, less)) in
      let count = ranked.count in
      let by_rank = are.each number k (means.by_label p) (good.numbers p less) is in_ranks (good.since p less)
      (means.labels p in_table) in
      let rank : slice_index ranks k ≡ (share * n + 99) / 100 =
      ranked.each k (omega (arith, in_ranks, count)) ∙ ap (λ (s : ℕ). (s * n + 99) / 100) of_share in
      let by_share = cell_for_share (λ m. lesser (means.by_label p m) walk) n share cell
      (subst (λ (r : ℕ). IsCellOf (λ m. lesser (means.by_label p m) walk) n r cell) rank by_rank) in
      let minutes : n ≡ t.minutes = sym means.minutes in
      subst (λ (c : ℕ). IsLeastOrNone (Attains (λ m. at t p m) c share) cell) minutes
      (cell_alike (λ m. lesser (means.by_label p m) walk) (λ m. at t p m) n share cell
      (λ m l. sym (means.durations p m in_table (omega (arith, l, minutes)))) by_share)

  module _ (k share : ℕ) (in_ranks : k < length ranks) (of_share : slice_index q.shares.now k ≡ share)
      (of_stops : List ℕ) (stops : AreStopCells (length ranks) cells k w.numbers.now of_stops) where
    -- by the list of all stops' cells
    listed_cell : (p : ℕ) → p < length w.numbers.now → is_used used (slice_index w.numbers.now p) →
        IsCell t share p (known_of (slice_index of_stops p))
    listed_cell p less is = subst (λ (x : ℕ). IsCell t share p (known_of x)) (sym (stops.each p less))
        (stop_cell p k share less is in_ranks of_share)

    picked_cells : All (λ (stop : StopNo). stop.0 < length w.numbers.now) q.destinations.now →
        ((j : ℕ) → j < length q.destinations.now → is_used used (slice_index w.numbers.now (stop_at
        q.destinations.now j)))
        → (given : List (Option ℕ)) → ArePicked of_stops q.destinations.now given →
        AreCellsAt t q.destinations.now share given
    picked_cells within marked given picked = record {
      count = picked.count;
      each = λ j stop here.
          let ds = q.destinations.now in
          let less = slice_get_within ds j stop here in
          let same : stop_at ds j ≡ stop.0 =
          ap (λ (s : StopNo). s.0) (get_or_from_slice_get ds j stop (record { 0 = 0 }) here) in
          let there : stop_at ds j < length w.numbers.now =
          All-get_or (λ (s : StopNo). s.0 < length w.numbers.now) ds j (record { 0 = 0 }) less within in
          subst (λ (p : ℕ). IsCell t share p (slice_index_or given j None)) same
          (subst (λ (o : Option ℕ). IsCell t share (stop_at ds j) o) (sym (picked.each j less))
          (listed_cell (stop_at ds j) there (marked j less)));
    }

    access_sum : length q.opportunities.now ≡ length w.numbers.now →
        ((p : ℕ) → p < length w.numbers.now → slice_index q.opportunities.now p ≢ 0 →
        is_used used (slice_index w.numbers.now p)) → (limit sum : ℕ) →
        sum ≡ sum_to (λ p. counted (known_of (slice_index of_stops p)) (slice_index q.opportunities.now p) limit)
        (length of_stops) → IsAccess t q.opportunities.now share limit sum
    access_sum same marked limit sum is all those =
        let ns = q.opportunities.now in
        let count = stops.count in
        let table = means.stops in
        let listed = those.stops in
        let long : length of_stops ≡ length all = omega (arith, count, table, listed) in
        is ∙ (ap (λ (n : ℕ). sum_to (λ p. counted (known_of (slice_index of_stops p)) (slice_index ns p) limit) n) long
        ∙ (sum_same (λ p. counted (known_of (slice_index of_stops p)) (slice_index ns p) limit)
        (λ p. counted (slice_index_or all p None) (slice_index ns p) limit) (length all)
        (λ p less. counted_same (known_of (slice_index of_stops p)) (slice_index_or all p None) (slice_index ns p) limit
        (λ some.
        let there : p < length w.numbers.now = omega (arith, less, table, listed) in
        cell_unique t share p (known_of (slice_index of_stops p)) (slice_index_or all p None)
        (listed_cell p there (marked p there some)) (those.each p (omega (arith, less, listed)))))
        ∙ sym (access_is_sum all ns limit (omega (arith, same, table, listed)))))

  pub share_cells : All (λ (stop : StopNo). stop.0 < length w.numbers.now) q.destinations.now →
      length q.opportunities.now ≡ length w.numbers.now →
      ((j : ℕ) → j < length q.destinations.now → is_used used (slice_index w.numbers.now (stop_at q.destinations.now
      j))) →
      ((p : ℕ) → p < length w.numbers.now → slice_index q.opportunities.now p ≢ 0 →
      is_used used (slice_index w.numbers.now p)) → (given : List ShareCells) →
      AreOfRanks (length ranks) cells w.numbers.now q (length ranks) given → AreShareCells t q given
  share_cells within same wanted useful given of = record {
    count = of.size ∙ ranked.count;
    each = λ k share here of_share at_k.
        let less = slice_get_within given k here at_k in
        let size = of.size in
        let in_ranks : k < length ranks = omega (arith, less, size) in
        let is_share = get_or_from_slice_get q.shares.now k share 0 of_share in
        let one : IsOfRank (length ranks) cells k w.numbers.now q here =
        subst (λ (g : ShareCells). IsOfRank (length ranks) cells k w.numbers.now q g)
        (get_or_from_slice_get given k here here at_k) (of.each k here in_ranks) in
        record {
          cells = picked_cells k share in_ranks is_share one.of_stops one.stops within wanted here.cells.items
              one.picked;
          count = one.sums.count;
          access = λ i l. access_sum k share in_ranks is_share one.of_stops one.stops same useful
              (slice_index q.limits.now i) (slice_index here.access.items i) (one.sums.each i l);
        };
  }
