-- The departures of a frequency row stay in range where its first and its last one do.
use Rattle.std.proofs.Common.{◌≡◌, ◌∙◌, ◌<◌, ◌≤◌, ◌+◌, ◌-◌, ◌*◌, ◌/◌, ◌%◌, ◌&&◌, ◌||◌, ℕ, ℤ, Bool, true, false, not}
use Rattle.std.proofs.Common.{cond, List, [], ◌∷◌, map, nat_le, nat_lt, get_or, refl, sym, ap, arith}
use Rattle.std.proofs.Math.Nat.{mul-le-mul_left, mul-le-mul_right}
use Rattle.std.proofs.lemmas.Bool.Decides.{nat_tests}
use Rattle.std.proofs.lemmas.List.Folds.{list_all-map, list_all_at}
use Rattle.std.proofs.lemmas.List.FromFn.{get_or-range_with_len, length-range_with_len}
use Rattle.std.proofs.lemmas.List.Elements.{All-head, All-tail}
use Rattle.std.proofs.lemmas.Bool.{and_right}
use Rattle.std.specs.Prelude.{All}
use Rattle.std.specs.List.{filter, list_all, range_with_len}
use Rattle.gtfs_tables.specs.Feed.{IsDeparting}
use Rattle.table_files.specs.declared.frequencies.Departures.{Departures}
use Rattle.service_days.specs.Instances.{departures_of}
use Rattle.scenarios.specs.ShiftedTimes.{begins_in_range, ends_in_range, is_departure_in_range}
use Rattle.scenarios.proofs.MovedRanges.{begins_later, ends_earlier}

pub list_all-filter : {A : Type 0} (p q : A → Bool) (xs : List A) →
    list_all q (filter p xs) ≡ list_all (λ x. not (p x) || q x) xs
list_all-filter p q [] = refl
list_all-filter p q (x ∷ xs) = one (p x) ∙ ap (λ b. (not (p x) || q x) && b) (list_all-filter p q xs)
  where
    one : (b : Bool) → list_all q (cond b (x ∷ filter p xs) (filter p xs))
        ≡ ((not b || q x) && list_all q (filter p xs))
    one true = refl
    one false = refl

-- a test that holds of each element
pub from_all : {A : Type 0} (q : A → Bool) (xs : List A) → All (λ x. q x ≡ true) xs → list_all q xs ≡ true
from_all q [] h = refl
from_all q (x ∷ xs) h = rw (All-head (λ x. q x ≡ true) x xs h) (from_all q xs (All-tail (λ x. q x ≡ true) x xs h))

-- of each number below n, and not of one of them
all_below : (q : ℕ → Bool) (n : ℕ) → ((x : ℕ) → x < n → q x ≡ true) → list_all q (range_with_len 0 n) ≡ true
all_below q n h = from_all q (range_with_len 0 n) (λ k d lt.
    let less : k < n = omega (arith, lt, length-range_with_len 0 n) in
    let same : 0 + k ≡ k = omega arith in
    ap q (get_or-range_with_len 0 n k d less ∙ same) ∙ h k less)

one_below : (q : ℕ → Bool) (n x : ℕ) → x < n → q x ≡ false → list_all q (range_with_len 0 n) ≡ false
one_below q n x lt h =
    let here : get_or (range_with_len 0 n) x 0 ≡ 0 + x = get_or-range_with_len 0 n x 0 lt in
    let same : 0 + x ≡ x = omega arith in
    list_all_at q (range_with_len 0 n) x 0 (omega (arith, length-range_with_len 0 n)) (ap q (here ∙ same) ∙ h)

module _ (z : ℤ) (span : ℕ) (row : Departures) (is : IsDeparting row) where
  abbrev time : ℕ → ℕ
  time x = row.start + x * row.headway

  abbrev passes : ℕ → Bool
  passes x = not (nat_lt (time x) row.end) || is_departure_in_range z span (time x)

  by_number : list_all (is_departure_in_range z span) (departures_of row) ≡ list_all passes (range_with_len 0 row.end)
  by_number =
      list_all-filter (λ t. nat_lt t row.end) (is_departure_in_range z span) (map time (range_with_len 0 row.end))
      ∙ list_all-map (λ t. not (nat_lt t row.end) || is_departure_in_range z span t) time (range_with_len 0 row.end)

  past : (x : ℕ) → row.end ≤ time x → passes x ≡ true
  past x le = let off : nat_lt (time x) row.end ≡ false = grind (arith, nat_tests) in
      ap (λ b. not b || is_departure_in_range z span (time x)) off

  before : (x : ℕ) → time x < row.end → passes x ≡ is_departure_in_range z span (time x)
  before x lt = let on : nat_lt (time x) row.end ≡ true = grind (arith, nat_tests) in
      ap (λ b. not b || is_departure_in_range z span (time x)) on

  -- a row that ends no later than it starts has none
  pub none_in_row : row.end ≤ row.start → true ≡ list_all (is_departure_in_range z span) (departures_of row)
  none_in_row le = sym (by_number ∙ all_below passes row.end (λ x lt. past x (omega arith)))

  module _ (some : row.start < row.end) where
    abbrev number : ℕ
    number = (row.end - row.start - 1) / row.headway

    abbrev last : ℕ
    last = row.end - 1 - (row.end - row.start - 1) % row.headway

    -- the time of the last departure
    last_time : (last ≡ time number) × (last < row.end) × (number < row.end)
    last_time =
        let n = row.end - row.start - 1 in
        let h = row.headway in
        let some_headway : 1 ≤ h = is.headway in
        let whole : h * (n / h) + n % h ≡ n = omega arith in
        let few : n / h * 1 ≤ n / h * h = mul-le-mul_left (n / h) some_headway in
        (omega arith, omega arith, omega arith)

    none_later : (x : ℕ) → time x < row.end → time x ≤ last
    none_later x lt = by (nat_le x number) refl
      where
        by : (b : Bool) → nat_le x number ≡ b → time x ≤ last
        by true le =
            let l : x ≤ number = grind (arith, nat_tests) in
            let m : x * row.headway ≤ number * row.headway = mul-le-mul_right row.headway l in
            let at = last_time.0 in
            omega arith
        by false more =
            let l : number + 1 ≤ x = grind (arith, nat_tests) in
            let m : (number + 1) * row.headway ≤ x * row.headway = mul-le-mul_right row.headway l in
            let n = row.end - row.start - 1 in
            let h = row.headway in
            let positive : 1 ≤ h = is.headway in
            let whole : h * (n / h) + n % h ≡ n = omega arith in
            let rest : n % h < h = omega arith in
            absurd (omega arith)

    by_ends : (b e : Bool) → begins_in_range z row.start ≡ b → ends_in_range z (last + span) ≡ e →
        (b && e) ≡ list_all passes (range_with_len 0 row.end)
    by_ends true true hb he = sym (all_below passes row.end (λ x lt. at x (nat_lt (time x) row.end) refl))
      where
        at : (x : ℕ) (c : Bool) → nat_lt (time x) row.end ≡ c → passes x ≡ true
        at x true on =
            let lt : time x < row.end = grind (arith, nat_tests) in
            let le = none_later x lt in
            let begins = begins_later z row.start (time x) (omega arith) hb in
            let ends = ends_earlier z (time x + span) (last + span) (omega arith) he in
            before x lt ∙ (λ k. begins k && ends k)
        at x false off = past x (grind (arith, nat_tests))
    by_ends false e hb he =
        let first : time 0 ≡ row.start = omega arith in
        let begins : begins_in_range z (time 0) ≡ false = ap (begins_in_range z) first ∙ hb in
        sym (one_below passes row.end 0 (omega arith) (before 0 (omega arith)
        ∙ ap (λ b. b && ends_in_range z (time 0 + span)) begins))
    by_ends true false hb he =
        let (at, within, below) = last_time in
        let ends : ends_in_range z (time number + span) ≡ false = ap (λ t. ends_in_range z (t + span)) (sym at) ∙ he in
        sym (one_below passes row.end number below (before number (omega arith)
        ∙ and_right (begins_in_range z (time number)) (ends_in_range z (time number + span)) ends))

    -- its first and its last departure decide
    pub row_by_ends : (begins_in_range z row.start && ends_in_range z (last + span))
        ≡ list_all (is_departure_in_range z span) (departures_of row)
    row_by_ends = by_ends (begins_in_range z row.start) (ends_in_range z (last + span)) refl refl ∙ sym by_number
