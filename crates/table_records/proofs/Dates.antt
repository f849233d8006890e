-- What eight digits write, and the days of the calendar.
use Rattle.std.proofs.Common.{◌≡◌, ◌<◌, ◌≤◌, ◌+◌, ◌*◌, ◌-◌, ◌^◌, ◌&&◌, ◌↔◌, nat_le, ℕ, suc, List, [], ◌∷◌, length}
use Rattle.std.proofs.Common.{arith, sym, subst, Bool, true, false, refl, Some, None, if◌then◌else◌, ℤ, pos, not}
use Rattle.std.proofs.Math.Nat.{pow-suc}
use Rattle.std.proofs.lemmas.Bool.Decides.{nat_tests}
use Rattle.std.proofs.lemmas.Int.{ints}
use Rattle.std.proofs.lemmas.Bool.{le-leb, leb-true}
use Rattle.std.specs.List.{list_all}
use Rattle.std.specs.Prelude.{Result, Ok, Err, IsOk, IfOk, option_map}
use Rattle.jiff.specs.Words.{IsDate, IsYmd, epoch_day, days_in_month}
use Rattle.jiff_core.specs.Calendar.{days_from_civil}
use Rattle.jiff_core.specs.declared.civil.date.Date.{Date}
use Rattle.std.specs.Result.{result_ok}
use Rattle.table_records.specs.Fields.{value_after, number_of, is_digit, is_empty, is_day, day_number}

digit_bound : (b : ℕ) → is_digit b ≡ true → b ≤ 57
digit_bound b h = grind (arith, nat_tests)

and_left : (p q : Bool) → (p && q) ≡ true → p ≡ true
and_left true q h = refl
and_left false q h = h

and_right : (p q : Bool) → (p && q) ≡ true → q ≡ true
and_right true q h = h
and_right false q h = cc h

value_below : (xs : List ℕ) (n m : ℕ) → list_all is_digit xs ≡ true → n < m → value_after n xs < m * 10 ^ length xs
value_below [] n m h lt = omega arith
value_below (x ∷ xs) n m h lt =
    let small : x ≤ 57 = digit_bound x (and_left (is_digit x) (list_all is_digit xs) h) in
    let more = value_below xs (n * 10 + (x - 48)) (m * 10) (and_right (is_digit x) (list_all is_digit xs) h)
    (omega (arith, small)) in
    let same : m * 10 ^ suc (length xs) ≡ m * 10 * 10 ^ length xs = rw pow-suc (grind arith) in
    omega (arith, more, same)

some_value : (p : Bool) (v w : ℕ) → (if p then Some v else None) ≡ Some w → (p ≡ true) × (v ≡ w)
some_value true v w h = (refl, cc h)
some_value false v w h = cc h

-- eight digits write a number of eight digits
pub eight_digits : (text : List ℕ) (v : ℕ) → length text ≡ 8 → Some v ≡ number_of text → v < 100000000
eight_digits text v eight e =
    let (tests, is) = some_value (not (is_empty text) && list_all is_digit text && nat_le (value_after 0 text)
    4294967295) (value_after 0 text) v (sym e) in
    let digits = and_right (not (is_empty text)) (list_all is_digit text)
    (and_left _ (nat_le (value_after 0 text) 4294967295) tests) in
    let small = rw eight at (value_below text 0 1 digits (omega arith)) in
    omega (arith, small, is)

day_true : (y m d : ℕ) → IsDate (pos y) (pos m) (pos d) → is_day y m d ≡ true
day_true y m d (year, month, day) =
    let a : 1 ≤ m = omega (arith, ints, month.0) in
    let b : m ≤ 12 = omega (arith, ints, month.1) in
    let e : 1 ≤ d = omega (arith, ints, day.0) in
    let f : d ≤ days_in_month (pos y) m = omega (arith, ints, day.1) in
    rw (le-leb 1 m a, le-leb m 12 b, le-leb 1 d e, le-leb d (days_in_month (pos y) m) f) refl

true_day : (y m d : ℕ) → y ≤ 9999 → is_day y m d ≡ true → IsDate (pos y) (pos m) (pos d)
true_day y m d small h =
    let abc = and_left (nat_le 1 m && nat_le m 12 && nat_le 1 d) (nat_le d (days_in_month (pos y) m)) h in
    let ab = and_left (nat_le 1 m && nat_le m 12) (nat_le 1 d) abc in
    let a = leb-true 1 m (and_left (nat_le 1 m) (nat_le m 12) ab) in
    let b = leb-true m 12 (and_right (nat_le 1 m) (nat_le m 12) ab) in
    let e = leb-true 1 d (and_right (nat_le 1 m && nat_le m 12) (nat_le 1 d) abc) in
    let f = leb-true d (days_in_month (pos y) m)
    (and_right (nat_le 1 m && nat_le m 12 && nat_le 1 d) (nat_le d (days_in_month (pos y) m)) h) in (
      (omega (arith, ints), omega (arith, ints)),
      (omega (arith, ints, a), omega (arith, ints, b)),
      (omega (arith, ints, e), omega (arith, ints, f)),
    )

-- the day number of what `Date::new` makes
pub civil : {E : Type 0} (y m d : ℕ) → y ≤ 9999 → (r : Result Date E) → (IsOk r ↔ IsDate (pos y) (pos m) (pos d)) →
    IfOk r (IsYmd (pos y) (pos m) (pos d))
    → option_map epoch_day (result_ok r) ≡ day_number y m d
civil y m d small (Ok x) ok ymd =
    let yes = day_true y m d (ok.0 refl) in
    let month : x.month ≡ m = cc ymd.1 in
    let day : x.day ≡ d = cc ymd.2 in
    rw (yes, ymd.0, month, day) refl
civil y m d small (Err e) ok ymd = by (is_day y m d) refl
  where
    by : (b : Bool) → is_day y m d ≡ b → None ≡ (if b then Some (days_from_civil (pos y) m d) else None)
    by true h = cc (ok.1 (true_day y m d small h))
    by false h = refl

-- the same, of the signed numbers that the code casts to
pub civil_cast : {E : Type 0} (y m d : ℕ) (Y M D : ℤ) → Y ≡ pos y → M ≡ pos m → D ≡ pos d → y ≤ 9999 →
    (r : Result Date E)
    → (IsOk r ↔ IsDate Y M D) → IfOk r (IsYmd Y M D) → option_map epoch_day (result_ok r) ≡ day_number y m d
civil_cast y m d Y M D ey em ed small r ok ymd =
    civil y m d small r (subst (λ (z : ℤ). IsOk r
    ↔ IsDate z (pos m) (pos d)) ey (subst (λ (z : ℤ). IsOk r
    ↔ IsDate Y z (pos d)) em (subst (λ (z : ℤ). IsOk r ↔ IsDate Y M z) ed ok)))
    (subst (λ (z : ℤ). IfOk r (IsYmd z (pos m) (pos d))) ey
    (subst (λ (z : ℤ). IfOk r (IsYmd Y z (pos d))) em (subst (λ (z : ℤ). IfOk r (IsYmd Y M z)) ed ymd)))
