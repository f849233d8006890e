-- What each kind of atomic step shows the seat that takes it.
use Rattle.std.specs.Prelude.{◌≡◌, ℕ, ◌-◌, ◌<◌, ◌≤◌, true, false, nat_lt, if◌then◌else◌}
use Rattle.std.specs.List.{All}
use Rattle.atomic_table.specs.Table.{Me, Step}
use Rattle.work_book.specs.Laws.{drawn_in, kept_in}
use Rattle.work_book.specs.Views.{seat_of, knows, stepped, drew, told_nothing, knowing, keeping}
use Rattle.work_book.specs.declared.rule.View.{View}

-- a seat, by its view; it holds no slot of the table
abbrev pub Mine : Type 0
Mine = Me (Unit {0}) View

-- the number found is the seat's, and above all that it drew, where it is below the limit; else all numbers are drawn
abbrev pub Draws : Step (Unit {0}) → Mine → ℕ → Mine → Type 0
Draws s v found w =
    (w.1 ≡ v.1) × (found < v.0.limit → (w.0 ≡ drew found v.0) × All (λ drawn. drawn < found) v.0.drawn)
    × (v.0.limit ≤ found → w.0 ≡ told_nothing v.0)

-- no number and no job stands twice in a view
pub record IsOnce (v : View) : Type 0 where
  pub drawn : (number : ℕ) → drawn_in number (seat_of v) ≤ 1
  pub kept : (job : ℕ) → kept_in job (seat_of v) ≤ 1

-- the lists of a view are those of the whole board: the numbers below the next one were drawn, each once; all were
-- where the seat was told so; and each job that it knows to be settled was kept, once
pub record IsWhole (v : View) : Type 0 where
  pub next : ℕ
  pub within : next ≤ v.limit
  pub drawn : (number : ℕ) → drawn_in number (seat_of v) ≡ (if nat_lt number next then 1 else 0)
  pub told : v.told ≡ true → next ≡ v.limit
  pub kept : (job : ℕ) → knows v job ≡ true → kept_in job (seat_of v) ≡ 1

-- a load of any word shows that nothing stands twice, that there are no more shares than all, and that the lists of a
-- seat with every share are those of the whole board
abbrev pub Shows : Step (Unit {0}) → Mine → ℕ → Mine → Type 0
Shows s v found w =
    (w.1 ≡ v.1) × (w.0 ≡ stepped v.0) × IsOnce v.0 × (v.0.share ≤ 65536) × (v.0.share ≡ 65536 → IsWhole v.0)

-- a job whose word is 0 wasn't known to be settled; one whose word isn't 0 is known from then on
abbrev pub Looks : Step (Unit {0}) → Mine → ℕ → Mine → Type 0
Looks s v found w =
    (w.1 ≡ v.1) × (found ≡ 0 → (w.0 ≡ stepped v.0) × (knows v.0 (s.word - 1) ≡ false))
    × (0 < found → w.0 ≡ knowing (s.word - 1) v.0)

-- a job whose word was 0 is kept, under the number that its word is set to, less 1, and settled from then on; one whose
-- word wasn't 0 was settled before
abbrev pub Settles : Step (Unit {0}) → Mine → ℕ → Mine → Type 0
Settles s v found w =
    (w.1 ≡ v.1) × (found ≡ 0 → (w.0 ≡ keeping (s.word - 1) (s.second - 1) v.0) × (knows v.0 (s.word - 1) ≡ false))
    × (0 < found → w.0 ≡ knowing (s.word - 1) v.0)
