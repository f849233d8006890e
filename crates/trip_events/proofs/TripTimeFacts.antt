-- Ascending records.
use Rattle.std.proofs.Common.{◌≡◌, ◌<◌, ◌≤◌, ◌+◌, ◌==◌, ℕ, zero, suc, Bool, false, List, [], ◌∷◌, length, get_or}
use Rattle.std.proofs.Common.{insert, arith, refl}
use Rattle.std.proofs.lemmas.Bool.{lt-ltb, ne_eqb, le-ltb}
use Rattle.std.specs.Prelude.{None}
use Rattle.std.specs.List.{list_any}
use Rattle.std.specs.List.Sorted.{IsNonDecreasingBy}
use Rattle.trip_events.specs.TripTimes.{FitsAt, IsAscending, insert_in_order}
use Rattle.trip_events.specs.declared.trip_times.StopTime.{StopTime}

-- a record has a sequence number
abbrev pub has : ℕ → StopTime → Bool
has n s = s.sequence == n

-- records from a greater number on do not have it
above : (low n : ℕ) (xs : List StopTime) → n < low → IsAscending low xs → list_any (has n) xs ≡ false
above low n [] lt up = refl
above low n (s ∷ rest) lt up =
    let le = up.0 in
    let here : (s.sequence == n) ≡ false = ne_eqb _ _ (λ e. absurd (omega (arith, e, le))) in
    rw (here, above (s.sequence + 1) n rest (omega (arith, le)) up.1) refl

-- each record has at least the first number
at_least : (k low : ℕ) (xs : List StopTime) (d : StopTime) → IsAscending low xs → k < length xs →
    low ≤ (get_or xs k d).sequence
at_least zero low [] d up lt = absurd (omega arith)
at_least (suc k) low [] d up lt = absurd (omega arith)
at_least zero low (s ∷ rest) d up lt = up.0
at_least (suc k) low (s ∷ rest) d up lt =
    let le = up.0 in
    let more = at_least k (s.sequence + 1) rest d up.1 (omega arith) in
    omega (arith, le, more)

-- the sequence numbers rise
pub rises : (low : ℕ) (xs : List StopTime) → IsAscending low xs → IsNonDecreasingBy (λ (s : StopTime). s.sequence) xs
rises low [] up i j d le lt = absurd (omega arith)
rises low (s ∷ rest) up zero zero d le lt = omega arith
rises low (s ∷ rest) up zero (suc j) d le lt = let more = at_least j (s.sequence + 1) rest d up.1 (omega arith) in
    omega (arith, more)
rises low (s ∷ rest) up (suc i) zero d le lt = absurd (omega arith)
rises low (s ∷ rest) up (suc i) (suc j) d le lt = rises (s.sequence + 1) rest up.1 i j d (omega arith) (omega arith)

-- a record between those below its number and those above it
pub record Fits (low : ℕ) (xs : List StopTime) (p : ℕ) (x : StopTime) : Type 0 where
  pub absent : list_any (has x.sequence) xs ≡ false
  pub ascending : IsAscending low (insert xs p x)
  pub placed : insert xs p x ≡ insert_in_order x xs

pub fits_at : (p low : ℕ) (xs : List StopTime) (x : StopTime) → IsAscending low xs → low ≤ x.sequence → p ≤ length xs
    → ((m : ℕ) → p ≡ suc m → (get_or xs m x).sequence < x.sequence) →
    (p < length xs → x.sequence < (get_or xs p x).sequence)
    → Fits low xs p x
fits_at zero low [] x up le within below beyond = record { absent = refl; ascending = (le, tt); placed = refl }
fits_at zero low (s ∷ rest) x up le within below beyond =
    let gt : x.sequence < s.sequence = beyond (omega arith) in
    let here : (s.sequence == x.sequence) ≡ false = ne_eqb _ _ (λ e. absurd (omega (arith, e))) in
    record {
      absent = rw (here, above (s.sequence + 1) x.sequence rest (omega arith) up.1) refl;
      ascending = (le, (omega arith, up.1));
      placed = rw (lt-ltb x.sequence s.sequence gt) refl;
    }
fits_at (suc p) low [] x up le within below beyond = absurd (omega arith)
fits_at (suc zero) low (s ∷ rest) x up le within below beyond =
    let lt : s.sequence < x.sequence = below zero refl in
    let here : (s.sequence == x.sequence) ≡ false = ne_eqb _ _ (λ e. absurd (omega (arith, e))) in
    let more = fits_at zero (s.sequence + 1) rest x up.1 (omega arith) (omega arith) (λ m h. absurd (omega (arith, h)))
    (λ h. beyond (omega arith)) in
    record {
      absent = rw (here, more.absent) refl;
      ascending = (up.0, more.ascending);
      placed = rw (le-ltb x.sequence s.sequence (omega arith), more.placed) refl;
    }
fits_at (suc (suc p)) low (s ∷ rest) x up le within below beyond =
    let last : (get_or rest p x).sequence < x.sequence = below (suc p) refl in
    let first : s.sequence < (get_or rest p x).sequence =
    (let h = at_least p (s.sequence + 1) rest x up.1 (omega arith) in omega (arith, h)) in
    let here : (s.sequence == x.sequence) ≡ false = ne_eqb _ _ (λ e. absurd (omega (arith, e))) in
    let more = fits_at (suc p) (s.sequence + 1) rest x up.1 (omega arith) (omega arith) (λ m h. let e : m ≡ p =
    omega (arith, h) in rw e last) (λ h. beyond (omega arith)) in
    record {
      absent = rw (here, more.absent) refl;
      ascending = (up.0, more.ascending);
      placed = rw (le-ltb x.sequence s.sequence (omega arith), more.placed) refl;
    }

-- where a record with a sequence number belongs
pub fits : (i n : ℕ) (xs : List StopTime) → IsAscending 0 xs → i ≤ length xs →
    ((m : ℕ) → i ≡ suc m → (d : StopTime) → (get_or xs m d).sequence < n)
    → (i < length xs → (d : StopTime) → n < (get_or xs i d).sequence) → FitsAt i n xs
fits i n xs up within below beyond =
    let new : StopTime = record { sequence = n; at = 0; stop = None; times = None; board = false; alight = false } in
    record {
      within = within;
      absent = (at new refl).absent;
      placed = λ s e. (at s e).placed;
      ascending = λ s e. (at s e).ascending;
    }
  where
    at : (s : StopTime) → s.sequence ≡ n → Fits 0 xs i s
    at s e = fits_at i 0 xs s up (omega arith) within (λ m h. let b = below m h s in
        omega (arith, b, e)) (λ lt. let b = beyond lt s in omega (arith, b, e))

-- all records are below a number that the last one is below
pub below_last : (n : ℕ) (xs : List StopTime) → IsAscending 0 xs → (last : ℕ) → length xs ≡ last + 1 → (d : StopTime) →
    (get_or xs last d).sequence < n
    → (k : ℕ) → k < length xs → (get_or xs k d).sequence < n
below_last n xs up last size d lt k within =
    let least : (get_or xs k d).sequence ≤ (get_or xs last d).sequence =
    rises 0 xs up k last d (omega (arith, size, within)) (omega (arith, size)) in
    omega (arith, least, lt)

-- a record past all others belongs last
pub fits_last : (n : ℕ) (xs : List StopTime) → IsAscending 0 xs →
    ((k : ℕ) (d : StopTime) → k < length xs → (get_or xs k d).sequence < n) → FitsAt (length xs) n xs
fits_last n xs up past = fits (length xs) n xs up (omega arith) (λ m e d. past m d (omega (arith, e)))
    (λ lt d. absurd (omega (arith, lt)))
