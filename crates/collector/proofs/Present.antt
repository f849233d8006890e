-- Full places have a row at each index.
use Rattle.std.proofs.Common.{◌≡◌, ℕ, zero, suc, List, [], ◌∷◌, Option, Some, None, true, false, map, refl, ap, arith}
use Rattle.std.proofs.Common.{get_or}
use Rattle.std.specs.List.{slice_get}
use Rattle.collector.specs.Row.{RowData}
use Rattle.collector.specs.Places.{present, AreFull}

rest : (o : Option RowData) (rows : List (Option RowData)) → AreFull (o ∷ rows) → AreFull rows
rest o rows full = λ k below. full (suc k) (omega arith)

pub present_at : (rows : List (Option RowData)) (k : ℕ) (row : RowData) → AreFull rows → get_or rows k None ≡ Some row →
    slice_get (present rows) k ≡ Some row
present_at [] k row full at = cc
present_at (None ∷ rows) k row full at = (let a : false ≡ true = full zero (omega arith) in cc)
present_at (Some x ∷ rows) zero row full at = at
present_at (Some x ∷ rows) (suc k) row full at = present_at rows k row (rest (Some x) rows full) at

pub all_present : (rows : List (Option RowData)) → AreFull rows → rows ≡ map Some (present rows)
all_present [] full = refl
all_present (None ∷ rows) full = (let a : false ≡ true = full zero (omega arith) in cc)
all_present (Some x ∷ rows) full = ap (λ (l : List (Option RowData)). Some x ∷ l)
    (all_present rows (rest (Some x) rows full))
