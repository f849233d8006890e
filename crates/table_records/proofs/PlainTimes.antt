-- Times of two digits of hours, as nearly all are written.
use Rattle.std.proofs.Common.{◌≡◌, ◌+◌, ◌*◌, ◌-◌, ◌≤◌, ◌==◌, ◌&&◌, ℕ, Bool, true, false, List, [], ◌∷◌, length, Some}
use Rattle.std.proofs.Common.{None, nat_le, arith, refl, if◌then◌else◌}
use Rattle.std.proofs.lemmas.Bool.Decides.{nat_tests}
use Rattle.std.specs.Prelude.{slice_index}
use Rattle.table_records.proofs.Trims.{end_other}
use Rattle.table_records.specs.Fields.{hours_of, is_digit, sixty, time_of, trimmed}

-- two digits that write a number up to 59
record Pair (a b n : ℕ) : Type 0 where
  first : is_digit a ≡ true
  second : is_digit b ≡ true
  starts : (a == 32) ≡ false
  ends : (b == 32) ≡ false
  value : 10 * (a - 48) + (b - 48) ≡ n
  small : n ≤ 59

pair : (a b n : ℕ) → sixty a b ≡ Some n → Pair a b n
pair a b n e = by (nat_le 48 a && nat_le a 53 && is_digit b) refl e
  where
    by : (t : Bool) → (nat_le 48 a && nat_le a 53 && is_digit b) ≡ t →
        (if t then Some (10 * (a - 48) + (b - 48)) else None) ≡ Some n → Pair a b n
    by true h s =
        let is : 10 * (a - 48) + (b - 48) ≡ n = cc s in
        record {
          first = grind (arith, nat_tests);
          second = grind (arith, nat_tests);
          starts = grind (arith, nat_tests);
          ends = grind (arith, nat_tests);
          value = is;
          small = grind (arith, nat_tests);
        }
    by false h s = cc s

-- they are the hours of a time
hours : (a b n : ℕ) → Pair a b n → hours_of (a ∷ b ∷ []) ≡ Some n
hours a b n p =
    let value : (0 * 10 + (a - 48)) * 10 + (b - 48) ≡ n = omega (arith, p.value) in
    let small = p.small in
    let fits : nat_le n 4294967295 ≡ true = grind (arith, nat_tests) in
    let within : nat_le n 167 ≡ true = grind (arith, nat_tests) in
    rw (p.first, p.second, value, fits, within) refl

-- hours, minutes and seconds
written : (a b c d e f h m s : ℕ) → sixty a b ≡ Some h → sixty c d ≡ Some m → sixty e f ≡ Some s
    → time_of (trimmed (a ∷ b ∷ 58 ∷ c ∷ d ∷ 58 ∷ e ∷ f ∷ [])) ≡ Some (3600 * h + 60 * m + s)
written a b c d e f h m s hour minute second =
    let front = pair a b h hour in
    let back = pair e f s second in
    rw (front.starts, end_other (a ∷ b ∷ 58 ∷ c ∷ d ∷ 58 ∷ e ∷ []) f back.ends, hours a b h front, minute, second) refl

-- the time that a text of eight bytes shows
pub plain : (t : List ℕ) (h m s : ℕ) → length t ≡ 8 → slice_index t 2 ≡ 58 → slice_index t 5 ≡ 58 →
    sixty (slice_index t 0) (slice_index t 1) ≡ Some h
    → sixty (slice_index t 3) (slice_index t 4) ≡ Some m → sixty (slice_index t 6) (slice_index t 7) ≡ Some s →
    time_of (trimmed t) ≡ Some (3600 * h + 60 * m + s)
plain (a ∷ b ∷ x ∷ c ∷ d ∷ y ∷ e ∷ f ∷ []) h m s size one two hour minute second =
    rw (one, two) (written a b c d e f h m s hour minute second)
plain _ h m s size one two hour minute second = absurd (omega arith)
