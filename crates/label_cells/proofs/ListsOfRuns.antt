-- A run more.
use Rattle.std.proofs.Common.{◌≡◌, ◌≤◌, ◌<◌, ◌+◌, ◌++◌, ◌∷◌, [], ℕ, List, length, slice_index, get_or, inl, inr, ap}
use Rattle.std.proofs.Common.{refl, arith}
use Rattle.std.proofs.lemmas.Bool.{cases_lt}
use Rattle.std.proofs.lemmas.List.{get_or_append_left, get_or_at, length-append}
use Rattle.label_cells.specs.declared.runs.Run.{Run}
use Rattle.label_cells.specs.GroupLanes.{shortest_at, span_in, no_run}
use Rattle.label_cells.specs.Sums.{sum_to}
use Rattle.label_cells.proofs.SumsOfPlaces.{sum_next, sum_same}

module _ (runs : List Run) (run : Run) where
  pub longer : length (runs ++ run ∷ []) ≡ length runs + 1
  longer = let app = length-append runs (run ∷ []) in omega (arith, app)

  old : (i : ℕ) → i < length runs → get_or (runs ++ run ∷ []) i no_run ≡ get_or runs i no_run
  old i l = get_or_append_left runs (run ∷ []) no_run i l

  new : get_or (runs ++ run ∷ []) (length runs) no_run ≡ run
  new = get_or_at runs run [] no_run (length runs) refl

  pub same_shortest : (l i : ℕ) → i < length runs → shortest_at (runs ++ run ∷ []) l i ≡ shortest_at runs l i
  same_shortest l i less = ap (λ (r : Run). slice_index r.shortest l) (old i less)

  pub same_span : (i : ℕ) → i < length runs → span_in (runs ++ run ∷ []) i ≡ span_in runs i
  same_span i l = ap (λ (r : Run). r.span) (old i l)

  pub new_shortest : (l : ℕ) → shortest_at (runs ++ run ∷ []) l (length runs) ≡ slice_index run.shortest l
  new_shortest l = ap (λ (r : Run). slice_index r.shortest l) new

  pub new_span : span_in (runs ++ run ∷ []) (length runs) ≡ run.span
  new_span = ap (λ (r : Run). r.span) new

  pub span_more : sum_to (span_in (runs ++ run ∷ [])) (length (runs ++ run ∷ []))
      ≡ sum_to (span_in runs) (length runs) + run.span
  span_more =
      let long = ap (λ (n : ℕ). sum_to (span_in (runs ++ run ∷ [])) n) longer in
      let next = sum_next (span_in (runs ++ run ∷ [])) (length runs) in
      let same = sum_same (span_in (runs ++ run ∷ [])) (span_in runs) (length runs) same_span in
      let last = new_span in
      omega (arith, long, next, same, last)

  pub fits_more : ((l i : ℕ) → l < 16 → i < length runs → shortest_at runs l i ≤ 65535) →
      ((l : ℕ) → l < 16 → slice_index run.shortest l ≤ 65535) → (l i : ℕ) → l < 16 → i < length (runs ++ run ∷ []) →
      shortest_at (runs ++ run ∷ []) l i ≤ 65535
  fits_more before here l i h less = elim (cases_lt i (length runs)) [
    | inl lt ↦ let b = before l i h lt in let s = same_shortest l i lt in omega (arith, b, s)
    | inr ge ↦
        let e : length runs ≡ i = omega (arith, less, ge, longer) in
        let s = new_shortest l in
        let b = here l h in
        let t = ap (λ (k : ℕ). shortest_at (runs ++ run ∷ []) l k) e in
        omega (arith, s, b, t)
  ]
