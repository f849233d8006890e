-- What each share gives, in the shares' order.
use Rattle.std.proofs.Common.{◌≡◌, ◌⊎◌, ◌<◌, ◌+◌, ℕ, zero, suc, List, [], ◌∷◌, ◌++◌, Option, Some, None, length, get_or}
use Rattle.std.proofs.Common.{map, take, inl, inr, refl, sym, ap, ◌∙◌, arith}
use Rattle.std.specs.List.{All, AllZip, slice_get}
use Rattle.std.proofs.Math.Seq.{take-suc}
use Rattle.std.proofs.lemmas.List.{ext_get_or, get_or-map, length-map, map-append}
use Rattle.std.proofs.lemmas.Option.{slice_get-get_or, same_Some}
use Rattle.timetable.specs.declared.trips.StopNo.{StopNo}
use Rattle.rounds.specs.Table.{DurationTable}
use Rattle.shares.specs.Percentiles.{AreCells, AreCellsAt}
use Rattle.shares.proofs.CellsUnique.{cell_unique}
use Rattle.collector.specs.Row.{CellsData}
use Rattle.workers.specs.Rows.{at_stops}

module _ {A B : Type 0} (R : A → B → Type 0) where
  pub zip_length : (xs : List A) (ys : List B) → AllZip R xs ys → length xs ≡ length ys
  zip_length [] [] h = refl
  zip_length [] (y ∷ ys) h = absurd h
  zip_length (x ∷ xs) [] h = absurd h
  zip_length (x ∷ xs) (y ∷ ys) h = ap suc (zip_length xs ys h.1)

  pub zip_at : (xs : List A) (ys : List B) (k : ℕ) (a : A) (b : B) → AllZip R xs ys → k < length xs →
      R (get_or xs k a) (get_or ys k b)
  zip_at [] [] k a b h below = absurd (omega arith)
  zip_at [] (y ∷ ys) k a b h below = absurd h
  zip_at (x ∷ xs) [] k a b h below = absurd h
  zip_at (x ∷ xs) (y ∷ ys) zero a b h below = h.0
  zip_at (x ∷ xs) (y ∷ ys) (suc k) a b h below = zip_at xs ys k a b h.1 (omega arith)

  pub zip_from : (xs : List A) (ys : List B) → length xs ≡ length ys →
      ((k : ℕ) (x : A) (y : B) → slice_get xs k ≡ Some x → slice_get ys k ≡ Some y → R x y) → AllZip R xs ys
  zip_from [] [] h each = tt
  zip_from [] (y ∷ ys) h each = absurd (omega arith)
  zip_from (x ∷ xs) [] h each = absurd (omega arith)
  zip_from (x ∷ xs) (y ∷ ys) h each =
      (each zero x y refl refl, zip_from xs ys (omega arith) (λ k a b. each (suc k) a b))

-- what stands in a list with one more element stood there before, or is that element
pub pushed_at : (xs : List CellsData) (x y : CellsData) (j : ℕ) → slice_get (xs ++ x ∷ []) j ≡ Some y →
    (slice_get xs j ≡ Some y) ⊎ ((j ≡ length xs) × (x ≡ y))
pushed_at [] x y zero h = inr (refl, same_Some x y h)
pushed_at [] x y (suc j) h = absurd (cc)
pushed_at (z ∷ xs) x y zero h = inl h
pushed_at (z ∷ xs) x y (suc j) h = elim (pushed_at xs x y j h) [
  | inl before ↦ inl before
  | inr last ↦ inr (ap suc last.0, last.1)
]

-- the cells of the destinations are those that all stops have there
pub at_all : (times : DurationTable) (ds : List StopNo) (share : ℕ) (cells all : List (Option ℕ)) →
    All (λ (d : StopNo). d.0 < times.stops) ds → AreCellsAt times ds share cells
    → AreCells times share all → cells ≡ at_stops ds all
at_all times ds share cells all there are are_all =
    ext_get_or None cells (at_stops ds all) (are.count
    ∙ sym (length-map ds (λ (s : StopNo). get_or all s.0 None))) (λ k below.
    let none : StopNo = record { 0 = 0 } in
    let low : k < length ds = omega (arith, below, are.count) in
    let stop : StopNo = get_or ds k none in
    cell_unique times share stop.0 (get_or cells k None) (get_or all stop.0 None)
    (are.each k stop (slice_get-get_or ds k none low)) (are_all.each stop.0 (there k none low))
    ∙ sym (get_or-map (λ (s : StopNo). get_or all s.0 None) ds k none None low))

-- one number more of those that are asked of
pub mapped_next : (f : ℕ → ℕ) (xs : List ℕ) (k : ℕ) → k < length xs →
    map f (take (k + 1) xs) ≡ map f (take k xs) ++ f (get_or xs k 0) ∷ []
mapped_next f xs k low =
    let step : k + 1 ≡ suc k = omega arith in
    ap (λ (n : ℕ). map f (take n xs)) step ∙ ap (λ (l : List ℕ). map f l) (take-suc xs k 0 low)
    ∙ map-append f (take k xs) (get_or xs k 0 ∷ [])
