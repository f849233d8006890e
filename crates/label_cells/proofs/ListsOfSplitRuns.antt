-- A row more.
use Rattle.std.proofs.Common.{◌≡◌, ◌≤◌, ◌<◌, ◌+◌, ◌++◌, ◌∷◌, [], ℕ, List, length, slice_index, get_or, inl, inr}
use Rattle.std.proofs.Common.{subst, sym, ap, refl, ◌∙◌, arith}
use Rattle.std.proofs.lemmas.Bool.{cases_lt, cases_eq}
use Rattle.std.proofs.lemmas.List.{get_or_append_left, get_or_at}
use Rattle.label_cells.specs.Runs.{IsSplitRun}
use Rattle.label_cells.specs.Sums.{sum_to}
use Rattle.label_cells.proofs.SumsOfPlaces.{sum_next, sum_same}
use Rattle.label_cells.specs.declared.split_runs.SplitRun.{SplitRun}
use Rattle.label_cells.specs.SplitRuns.{whole_at, rest_at, reached_at, no_split}

-- a part span for no more minutes than its run
pub part_few : (low shortest span whole rest reached : ℕ) → IsSplitRun low shortest span whole rest reached → reached
    ≤ span
part_few low shortest span whole rest reached part = elim (cases_eq shortest 65535) [
  | inl never ↦ let e = part.never never in omega (arith, e)
  | inr some ↦ let e = part.spans some in omega (arith, e)
]

module _ (low : List ℕ) (shortest : ℕ → ℕ → ℕ) (span : ℕ → ℕ) (n : ℕ) (rows : List SplitRun) (row : SplitRun) (long :
    length rows ≡ n) where
  old : (i : ℕ) → i < n → get_or (rows ++ row ∷ []) i no_split ≡ get_or rows i no_split
  old i less = get_or_append_left rows (row ∷ []) no_split i (omega (arith, less, long))

  new : (i : ℕ) → n ≡ i → get_or (rows ++ row ∷ []) i no_split ≡ row
  new i e = get_or_at rows row [] no_split i (long ∙ e)

  pub parts_more : ((l i : ℕ) → l < 16 → i < n →
      IsSplitRun (slice_index low l) (shortest l i) (span i) (whole_at rows l i) (rest_at rows l i) (reached_at rows
      l i))
      → ((l : ℕ) → l < 16 → IsSplitRun (slice_index low l) (shortest l n) (span n) (slice_index row.whole l)
      (slice_index row.rest l) (slice_index row.span l)) → (l i : ℕ) → l < 16 → i < n + 1 →
      IsSplitRun (slice_index low l) (shortest l i) (span i) (whole_at (rows ++ row ∷ []) l i)
      (rest_at (rows ++ row ∷ []) l i) (reached_at (rows ++ row ∷ []) l i)
  parts_more before here l i h less = elim (cases_lt i n) [
    | inl lt ↦ subst (λ (r : SplitRun). IsSplitRun (slice_index low l) (shortest l i) (span i) (slice_index r.whole l)
        (slice_index r.rest l) (slice_index r.span l)) (sym (old i lt)) (before l i h lt)
    | inr ge ↦
        let e : n ≡ i = omega (arith, less, ge) in
        subst (λ (r : SplitRun). IsSplitRun (slice_index low l) (shortest l i) (span i) (slice_index r.whole l)
        (slice_index r.rest l) (slice_index r.span l)) (sym (new i e))
        (subst (λ (k : ℕ). IsSplitRun (slice_index low l) (shortest l k) (span k) (slice_index row.whole l)
        (slice_index row.rest l) (slice_index row.span l)) e (here l h))
  ]

  pub wholes_more : ((l i : ℕ) → l < 16 → i < n → whole_at rows l i ≤ 1092) →
      ((l : ℕ) → l < 16 → slice_index row.whole l ≤ 1092) → (l i : ℕ) → l < 16 → i < n + 1 →
      whole_at (rows ++ row ∷ []) l i ≤ 1092
  wholes_more before here l i h less = elim (cases_lt i n) [
    | inl lt ↦ subst (λ (r : SplitRun). slice_index r.whole l ≤ 1092) (sym (old i lt)) (before l i h lt)
    | inr ge ↦ subst (λ (r : SplitRun). slice_index r.whole l ≤ 1092) (sym (new i (omega (arith, less, ge)))) (here l h)
  ]

  pub spans_more : (l : ℕ) → sum_to (reached_at rows l) n ≤ sum_to span n → slice_index row.span l ≤ span n →
      sum_to (reached_at (rows ++ row ∷ []) l) (n + 1) ≤ sum_to span (n + 1)
  spans_more l before here =
      let same = sum_same (reached_at (rows ++ row ∷ []) l) (reached_at rows l) n
      (λ i less. ap (λ (r : SplitRun). slice_index r.span l) (old i less)) in
      let last : reached_at (rows ++ row ∷ []) l n ≡ slice_index row.span l =
      ap (λ (r : SplitRun). slice_index r.span l) (new n refl) in
      let one = sum_next (reached_at (rows ++ row ∷ []) l) n in
      let two = sum_next span n in
      omega (arith, before, here, same, last, one, two)
