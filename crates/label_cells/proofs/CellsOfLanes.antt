-- The duration that is selected in a lane is the cell of its stop.
use Rattle.std.proofs.Common.{◌≡◌, ◌≢◌, ◌<◌, ◌+◌, ◌*◌, ℕ, Bool, List, Option, Some, None, if◌then◌else◌, length, inl}
use Rattle.std.proofs.Common.{inr, ap, sym, subst, ◌∙◌, arith}
use Rattle.std.proofs.lemmas.Bool.{cases_lt, ne_eqb}
use Rattle.rounds.specs.Table.{known_of}
use Rattle.label_cells.specs.Durations.{IsCellOf}
use Rattle.label_cells.specs.Runs.{AreRuns, IsSplitRun}
use Rattle.label_cells.specs.Sums.{sum_to}
use Rattle.label_cells.proofs.CellSelected.{selected, no_cell}
use Rattle.label_cells.specs.declared.split_runs.SplitRun.{SplitRun}
use Rattle.label_cells.specs.Places.{IsSelected}
use Rattle.label_cells.specs.SplitRuns.{whole_at, rest_at, reached_at}

counted : (x : ℕ) → x ≢ 4294967295 → known_of x ≡ Some x
counted x ne = ap (λ (b : Bool). if b then None else Some x) (ne_eqb x 4294967295 ne)

module _ (ds : ℕ → Option ℕ) (minutes low rank l runs : ℕ) (shortest span : ℕ → ℕ) (rows : List SplitRun)
    (are : AreRuns ds minutes shortest span runs)
    (split : (i : ℕ) → i < runs → IsSplitRun low (shortest i) (span i) (whole_at rows l i) (rest_at rows l i)
    (reached_at rows l i))
    (size : length rows ≡ runs) where
  there : AreRuns ds minutes shortest span (length rows)
  there = subst (λ (n : ℕ). AreRuns ds minutes shortest span n) (sym size) are

  parted : (i : ℕ) → i < length rows →
      IsSplitRun low (shortest i) (span i) (whole_at rows l i) (rest_at rows l i) (reached_at rows l i)
  parted i less = split i (omega (arith, less, size))

  pub cell_in_lane : (cell : ℕ) → IsSelected rows l low rank cell → IsCellOf ds minutes rank (known_of cell)
  cell_in_lane cell is = elim (cases_lt (sum_to (reached_at rows l) (length rows)) rank) [
    | inl fewer ↦
        subst (λ (x : ℕ). IsCellOf ds minutes rank (known_of x)) (sym (is.none fewer))
        (no_cell ds minutes low (length rows) shortest span (whole_at rows l) (rest_at rows l) (reached_at rows l) there
        parted rank fewer)
    | inr enough ↦
        let b = is.some enough in
        let here : IsCellOf ds minutes rank (Some (60 * (low + b.whole) + b.seconds)) =
        selected ds minutes low (length rows) shortest span (whole_at rows l) (rest_at rows l) (reached_at rows l) there
        parted rank b.whole b.seconds b.few b.between b.some in
        let cell_is = b.is in
        let few = b.few in
        let fewer = b.fewer in
        let known : known_of cell ≡ Some (60 * (low + b.whole) + b.seconds) =
        counted cell (λ e. omega (arith, e, cell_is, few, fewer)) ∙ ap Some cell_is in
        subst (λ (o : Option ℕ). IsCellOf ds minutes rank o) (sym known) here
  ]
