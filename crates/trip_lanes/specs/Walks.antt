-- What one stop offers to others: staying or changing there, and walks from it.
use Rattle.std.specs.Prelude.{◌≡◌, ℕ, ◌⊎◌, List, slice_index}
use Rattle.timetable.specs.Footpaths.{FootLists, FeetData}
use Rattle.timetable.specs.RoundSteps.{Walked, Changed}

-- staying at stop x, or walking from it
abbrev pub OfferedFrom : FootLists → List ℕ → ℕ → ℕ → ℕ → Type 0
OfferedFrom feet ride x p end =
    ((p ≡ x) × (end ≡ slice_index ride p)) ⊎ ((w : Walked feet ride p end) × (w.from ≡ x))

-- changing at stop x, or walking from it
abbrev pub TransferredFrom : FeetData → List ℕ → ℕ → ℕ → ℕ → Type 0
TransferredFrom feet ride x p end =
    ((p ≡ x) × Changed feet.changes ride p end) ⊎ ((w : Walked feet.walks ride p end) × (w.from ≡ x))
