-- Each stop has a cell for each share: the least duration that attains it lies at or below the greatest of its minutes.
use Rattle.std.proofs.Common.{◌≡◌, ◌⊎◌, ◌≤◌, ◌<◌, ◌*◌, ◌++◌, ◌∷◌, [], ℕ, zero, suc, List, Option, Some, None}
use Rattle.std.proofs.Common.{length, get_or, max, refl, ap, sym, subst, ◌∙◌, unwrap_or, inl, inr, arith}
use Rattle.std.proofs.lemmas.Bool.{cases_lt}
use Rattle.std.proofs.lemmas.List.{length-append}
use Rattle.timetable.specs.Least.{IsLeast}
use Rattle.rounds.specs.Table.{DurationTable, at, IsLeastOrNone}
use Rattle.shares.specs.Percentiles.{Attains, IsCell, minutes_within}
use Rattle.shares.specs.Laws.{CellsAreThere}
use Rattle.shares.proofs.MinutesWithinLimits.{attains_top, cells_more}

module _ (ds : ℕ → Option ℕ) where
  -- no duration of the first n minutes is greater
  top_of : ℕ → ℕ
  top_of zero = 0
  top_of (suc n) = max (top_of n) (unwrap_or (ds n) 0)

  is_top : (n m s : ℕ) → m < n → ds m ≡ Some s → s ≤ top_of n
  unfolding top_of
  is_top zero m s l is = absurd (omega (arith, l))
  is_top (suc n) m s l is = elim (cases_lt m n) [
    | inl low ↦
        let rest = is_top n m s low is in
        let def : top_of (suc n) ≡ max (top_of n) (unwrap_or (ds n) 0) = refl in
        omega (arith, rest, def)
    | inr high ↦
        let same : m ≡ n = omega (arith, l, high) in
        let here : unwrap_or (ds n) 0 ≡ s = ap (λ (k : ℕ). unwrap_or (ds k) 0) (sym same)
        ∙ ap (λ (o : Option ℕ). unwrap_or o 0) is in
        let def : top_of (suc n) ≡ max (top_of n) (unwrap_or (ds n) 0) = refl in
        omega (arith, here, def)
  ]

  module _ (n share : ℕ) where
    -- the least that attains the share, or none, among the first numbers
    below : (b : ℕ) → ((d : ℕ) × IsLeast (Attains ds n share) d) ⊎ ((d : ℕ) → d < b → Attains ds n share d → ⊥)
    below zero = inr (λ d l. absurd (omega (arith, l)))
    below (suc b) = elim (below b) [
      | inl found ↦ inl found
      | inr none ↦ elim (cases_lt (100 * minutes_within ds b n) (share * n)) [
        | inl fewer ↦ inr (λ d l a. elim (cases_lt d b) [
          | inl low ↦ none d low a
          | inr high ↦
              let same : d ≡ b = omega (arith, l, high) in
              let here : Attains ds n share b = subst (λ (k : ℕ). Attains ds n share k) same a in
              omega (arith, fewer, here)
        ])
        | inr enough ↦ inl (
          b,
          record {
            holds = enough;
            least = λ d a. elim (cases_lt d b) [
              | inl low ↦ absurd (none d low a)
              | inr high ↦ high
            ];
          },
        )
      ]
    ]

    pub cell_there : (cell : Option ℕ) × IsLeastOrNone (Attains ds n share) cell
    cell_there = elim (below (suc (top_of n))) [
      | inl found ↦ (Some found.0, found.1)
      | inr none ↦ (
        None,
        λ d a. none (top_of n) (omega arith)
            (attains_top ds n share (top_of n) d (λ m s. is_top n m s) a),
      )
    ]

-- the cells of the first stops
record AreFirst (t : DurationTable) (share k : ℕ) : Type 0 where
  cells : List (Option ℕ)
  count : length cells ≡ k
  each : (p : ℕ) → p < k → IsCell t share p (get_or cells p None)

first_cells : (t : DurationTable) (share k : ℕ) → AreFirst t share k
first_cells t share zero = record { cells = []; count = refl; each = λ p l. absurd (omega (arith, l)) }
first_cells t share (suc k) =
    let before = first_cells t share k in
    let one = cell_there (λ m. at t k m) t.minutes share in
    let long = length-append before.cells (one.0 ∷ []) in
    record {
      cells = before.cells ++ one.0 ∷ [];
      count = (let was = before.count in omega (arith, long, was));
      each = λ p l. cells_more t share before.cells one.0 k before.count before.each one.1 p (omega (arith, l));
    }

pub cells_there : CellsAreThere
cells_there t share = let all = first_cells t share t.stops in
    (all.cells, record { stops = all.count; each = all.each })
