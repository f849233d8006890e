-- The lanes of rows, after a row is written.
use Rattle.std.proofs.Common.{◌≡◌, ◌≢◌, ℕ, ◌<◌, [], List, length, get_or, set, map, slice_index, sym, ◌∙◌, ap, arith}
use Rattle.std.proofs.lemmas.List.{length-set, length-map, get_or-set_same, get_or-set_other, map-set, get_or-map}
use Rattle.trip_lanes.specs.Lane.{lane, labels_in}

module _ {A : Type 0} (labels : A → List ℕ) where
  pub long_rows : (rows : List A) → length (labels_in labels rows) ≡ length rows
  long_rows rows = length-map rows labels

  -- the lane at a row that was read
  pub row_old : (rows : List A) (i : ℕ) (row : A) (l : ℕ) → row ≡ get_or rows i row → i < length rows →
      slice_index (lane l (labels_in labels rows)) i ≡ slice_index (labels row) l
  row_old rows i row l read within =
      get_or-map (λ w. slice_index w l) (map labels rows) i [] 0 (omega (arith, long_rows rows))
      ∙ ap (λ w. slice_index w l) (get_or-map labels rows i row [] within ∙ ap labels (sym read))

  -- at one that was written, and at another
  pub row_new : (rows : List A) (row : A) (i l : ℕ) → i < length rows →
      slice_index (lane l (labels_in labels (set rows i row))) i ≡ slice_index (labels row) l
  row_new rows row i l within =
      row_old (set rows i row) i row l (sym (get_or-set_same rows i row row within))
      (omega (arith, length-set rows i row))

  pub row_other : (rows : List A) (row : A) (i p l : ℕ) → p ≢ i →
      slice_index (lane l (labels_in labels (set rows i row))) p ≡ slice_index (lane l (labels_in labels rows)) p
  row_other rows row i p l ne =
      rw (map-set labels rows i row, map-set (λ w. slice_index w l) (map labels rows) i (labels row))
      (get_or-set_other (lane l (map labels rows)) i p (slice_index (labels row) l) 0 ne)
