-- How far the edits of a scenario can shift a trip.
use Rattle.std.proofs.Common.{◌≤◌, ◌+◌, ◌*◌, ◌==◌, ℕ, ℤ, pos, neg_ℤ, ◌+ℤ◌, ◌≤ℤ◌, Bool, true, false, if◌then◌else◌, List}
use Rattle.std.proofs.Common.{[], ◌∷◌, length, fold, arith}
use Rattle.std.specs.Prelude.{All}
use Rattle.std.proofs.lemmas.Int.{ints}
use Rattle.std.proofs.lemmas.List.Elements.{All-head, All-tail}
use Rattle.scenarios.specs.Edits.{IsShift, shift_by, shift_of}
use Rattle.scenarios.specs.declared.edits.Edit.{Edit}
use Rattle.scenarios.specs.declared.edits.Edit.TheVariants.{RemoveRoute, RemoveTrip, Shift}

record IsWithin (n : ℕ) (z : ℤ) : Type 0 where
  pub low : neg_ℤ (pos n) ≤ℤ z
  pub high : z ≤ℤ pos n

either : (b : Bool) (z : ℤ) → IsWithin 604799 z → IsWithin 604799 (if b then z else pos 0)
either true z h = h
either false z h = record { low = omega (arith, ints); high = omega (arith, ints) }

one : (trip : ℕ) (edit : Edit) → IsShift edit → IsWithin 604799 (shift_by trip edit)
one trip (RemoveRoute r) h = record { low = omega (arith, ints); high = omega (arith, ints) }
one trip (RemoveTrip t) h = record { low = omega (arith, ints); high = omega (arith, ints) }
one trip (Shift t z) h = either (t == trip) z (record { low = h.0; high = h.1 })

all : (edits : List Edit) (trip : ℕ) (sum : ℤ) (n : ℕ) → IsWithin n sum → All IsShift edits
    → IsWithin (n + 604799 * length edits) (fold (λ (sum : ℤ) (edit : Edit). sum +ℤ shift_by trip edit) sum edits)
all [] trip sum n h fits = record {
  low = let l = h.low in omega (arith, ints);
  high = let l = h.high in
      omega (arith, ints);
}
all (e ∷ es) trip sum n h fits =
    let first = one trip e (All-head IsShift e es fits) in
    let next : IsWithin (n + 604799) (sum +ℤ shift_by trip e) = record {
      low = let a = h.low in let b = first.low in omega (arith, ints);
      high = let a = h.high in let b = first.high in omega (arith, ints);
    } in
    let rest = all es trip (sum +ℤ shift_by trip e) (n + 604799) next (All-tail IsShift e es fits) in
    record {
      low = let a = rest.low in omega (arith, ints);
      high = let a = rest.high in omega (arith, ints);
    }

-- no trip is shifted by more than the most edits can
pub shift_within : (edits : List Edit) (trip : ℕ) → length edits ≤ 100000 → All IsShift edits →
    (neg_ℤ (pos 60479900000) ≤ℤ shift_of edits trip) × (shift_of edits trip ≤ℤ pos 60479900000)
shift_within edits trip few fits =
    let sum = all edits trip (pos 0) 0 (record { low = omega (arith, ints); high = omega (arith, ints) }) fits in
    (let a = sum.low in omega (arith, ints), let a = sum.high in omega (arith, ints))
