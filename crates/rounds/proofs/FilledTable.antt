-- A table of labels, in which the lanes of a stop stand side by side, is filled minute by minute or batch by batch.
use Rattle.std.proofs.Common.{◌≡◌, ℕ, ◌+◌, ◌*◌, ◌<◌, ◌/◌, ◌%◌, inl, inr, Bool, List, [], length, get_or, replicate}
use Rattle.std.proofs.Common.{slice_index, ap, ◌∙◌, set, Some, None, if◌then◌else◌, sym, subst, arith}
use Rattle.std.proofs.lemmas.Bool.{cases_eq, ne_eqb}
use Rattle.std.proofs.lemmas.List.{get_or-set_same, get_or-set_other, get_or-replicate}
use Rattle.timetable.specs.declared.least.TheConstants.{NEVER}
use Rattle.timetable.specs.Least.{IsLeastOrNever}
use Rattle.useful_minutes.proofs.FilledLabels.{one_stop, position_before}
use Rattle.rounds.specs.Table.{batches_of, known_of, IsLeastOrNone}
use Rattle.rounds.specs.Batches.{AreUnusedFrom}

-- a position is of one minute
pub one_minute_of : (w p q m k : ℕ) → m < w → k < w → p * w + m ≡ q * w + k → m ≡ k
one_minute_of w p q m k l r e =
    let stop = one_stop w p q m k l r e in
    let same : q * w + m ≡ q * w + k = rw stop at e in
    omega (arith, same)

-- the lanes of a stop and batch that were written, and others
pub placed : (labels : List (List ℕ)) (v : List ℕ) (w p b : ℕ) → p * w + b < length labels →
    get_or (set labels (p * w + b) v) (p * w + b) [] ≡ v
placed labels v w p b room = get_or-set_same labels (p * w + b) v [] room

pub apart : (labels : List (List ℕ)) (v : List ℕ) (w p b q k : ℕ) → b < w → k < w → ((q ≡ p) × (k ≡ b) → ⊥) →
    get_or (set labels (p * w + b) v) (q * w + k) [] ≡ get_or labels (q * w + k) []
apart labels v w p b q k l r ne =
    get_or-set_other labels (p * w + b) (q * w + k) v []
    (λ e. ne (one_stop w q p k b r l e, one_minute_of w q p k b r l e))

-- a label that is least, or NEVER, tells a duration that is least, or none
pub known_least : (P : ℕ → Type 0) (x : ℕ) → IsLeastOrNever P x → IsLeastOrNone P (known_of x)
known_least P x is = elim (cases_eq x NEVER) [
  | inl e ↦ subst (λ (y : ℕ). IsLeastOrNone P (known_of y)) (sym e) (is.none e)
  | inr d ↦ subst (λ (b : Bool). IsLeastOrNone P (if b then None else Some x)) (sym (ne_eqb x NEVER d))
      (record { holds = is.holds d; least = is.least })
]

-- labels of NEVER alone are those of dead lanes
pub all_unused : (stops count minutes : ℕ) (labels : List (List ℕ)) →
    labels ≡ replicate (stops * batches_of minutes) (replicate 16 NEVER) → AreUnusedFrom stops count minutes labels
all_unused stops count minutes labels e p j there past l =
    let w = batches_of minutes in
    let i = p * w + j / 16 in
    let within : i < stops * w = position_before w p stops (j / 16) there (omega (arith, l)) in
    let row : get_or (replicate (stops * w) (replicate 16 NEVER)) i [] ≡ replicate 16 NEVER =
    get_or-replicate (stops * w) i (replicate 16 NEVER) [] within in
    let lane : get_or (replicate 16 NEVER) (j % 16) 0 ≡ NEVER = get_or-replicate 16 (j % 16) NEVER 0 (omega arith) in
    ap (λ (ls : List (List ℕ)). slice_index (get_or ls i []) (j % 16)) e
    ∙ (ap (λ (r : List ℕ). slice_index r (j % 16)) row ∙ lane)
