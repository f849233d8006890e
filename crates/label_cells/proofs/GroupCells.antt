-- The cells of a group more, and the cells of all stops.
use Rattle.std.proofs.Common.{◌≡◌, ◌<◌, ◌+◌, ◌*◌, ℕ, [], Bool, true, false, List, Option, length}
use Rattle.std.proofs.Common.{slice_index, slice_index_or, inl, inr, ap, sym, subst, ◌∙◌, arith}
use Rattle.std.proofs.lemmas.Bool.{cases_lt, both_ways}
use Rattle.rounds.specs.Table.{known_of}
use Rattle.useful_minutes.proofs.FilledLabels.{position_before, next_chunks}
use Rattle.rounds.specs.declared.labels.WindowLabels.{WindowLabels}
use Rattle.label_cells.specs.Durations.{IsCellOf}
use Rattle.label_cells.specs.Groups.{AddsGroup, AreLaneDurations}

-- the cells of the used groups before one
pub record AreCellsBefore (w : WindowLabels) (used : List Bool) (ranks : List ℕ) (groups : ℕ) (cells : List (List ℕ)) :
    Type 0 where
  pub size : length cells ≡ groups * length ranks
  pub each : (g k l : ℕ) (of_minute : ℕ → Option ℕ) → g < groups → slice_index_or used g false ≡ true →
      k < length ranks → l < 16 → AreLaneDurations w (16 * g * w.found.width) l of_minute →
      IsCellOf of_minute w.minutes (slice_index ranks k)
      (known_of (slice_index (slice_index_or cells (g * length ranks + k) []) l))

module _ (w : WindowLabels) (used : List Bool) (ranks : List ℕ) (n : ℕ) (old new : List (List ℕ))
    (before : AreCellsBefore w used ranks n old) (size : length new ≡ length old + length ranks)
    (kept : (i : ℕ) → i < length old → slice_index_or new i [] ≡ slice_index_or old i []) where
  longer : length new ≡ (n + 1) * length ranks
  longer = let was = before.size in let next = next_chunks (length ranks) n in omega (arith, size, was, next)

  still : (g k l : ℕ) (of_minute : ℕ → Option ℕ) → g < n → slice_index_or used g false ≡ true →
      k < length ranks → l < 16 → AreLaneDurations w (16 * g * w.found.width) l of_minute →
      IsCellOf of_minute w.minutes (slice_index ranks k)
      (known_of (slice_index (slice_index_or new (g * length ranks + k) []) l))
  still g k l ds lt is in_ranks h are =
      let place = position_before (length ranks) g n k lt in_ranks in
      let was = before.size in
      subst (λ (xs : List ℕ). IsCellOf ds w.minutes (slice_index ranks k) (known_of (slice_index xs l)))
      (sym (kept (g * length ranks + k) (omega (arith, place, was)))) (before.each g k l ds lt is in_ranks h are)

  -- a group that is used
  pub cells_more : AddsGroup w (16 * n * w.found.width) ranks old new → AreCellsBefore w used ranks (n + 1) new
  cells_more adds = record {
    size = longer;
    each = λ g k l ds less is in_ranks h are. elim (cases_lt g n) [
      | inl lt ↦ still g k l ds lt is in_ranks h are
      | inr ge ↦
          let e : n ≡ g = omega (arith, ge, less) in
          let was = before.size in
          let place : length old + k ≡ n * length ranks + k = omega (arith, was) in
          let here : (m : ℕ) → n ≡ m → AreLaneDurations w (16 * m * w.found.width) l ds →
          IsCellOf ds w.minutes (slice_index ranks k) (known_of (slice_index (slice_index_or new (m * length ranks +
          k) []) l)) =
          λ m same. subst (λ (i : ℕ). AreLaneDurations w (16 * i * w.found.width) l ds →
          IsCellOf ds w.minutes (slice_index ranks k) (known_of (slice_index (slice_index_or new (i * length ranks +
          k) []) l)))
          same (λ those. subst (λ (i : ℕ). IsCellOf ds w.minutes (slice_index ranks k)
          (known_of (slice_index (slice_index_or new i []) l))) place (adds.added k l ds in_ranks h those)) in
          here g e are
    ];
  }

  -- a group that isn't
  pub cells_skipped : slice_index_or used n false ≡ false → AreCellsBefore w used ranks (n + 1) new
  cells_skipped unused = record {
    size = longer;
    each = λ g k l ds less is in_ranks h are. elim (cases_lt g n) [
      | inl lt ↦ still g k l ds lt is in_ranks h are
      | inr ge ↦
          let e : n ≡ g = omega (arith, ge, less) in
          absurd (both_ways (slice_index_or used g false)
          (ap (λ (i : ℕ). slice_index_or used i false) (sym e) ∙ unused) is)
    ];
  }
