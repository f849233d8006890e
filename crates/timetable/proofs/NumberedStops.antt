-- Stops that have all been numbered.
use Rattle.std.proofs.Common.{◌≡◌, ◌≢◌, ℕ, zero, suc, ◌<◌, List, [], ◌∷◌, length, slice_index, refl, arith}
use Rattle.timetable.specs.Numbering.{AreBegun, AreNumbers, without_number}

none_without : (stops : ℕ) (numbers : List ℕ) → ((p : ℕ) → p < length numbers → slice_index numbers p ≢ stops) →
    without_number stops numbers ≡ 0
none_without stops [] h = refl
none_without stops (n ∷ numbers) h =
    let rest = none_without stops numbers (λ p l. h (suc p) (omega (arith, l))) in
    let here = h zero (omega arith) in
    grind (arith, rest, here)

pub all_numbered : (stops stop : ℕ) (numbers order : List ℕ) → AreBegun stops numbers order →
    ((p : ℕ) → p < stop → slice_index numbers p ≢ stops) → stops ≡ stop → AreNumbers stops numbers order
all_numbered stops stop numbers order are all same =
    let none = none_without stops numbers (λ p l. all p (omega (arith, l, are.size))) in
    let full : length order ≡ stops = omega (arith, are.count, none) in
    record {
      size = are.size;
      count = full;
      number = λ p l. let n = are.number p l (all p (omega (arith, l))) in (omega (arith, n.0, full), n.1);
      stop = λ n l. are.stop n (omega (arith, l, full));
    }
