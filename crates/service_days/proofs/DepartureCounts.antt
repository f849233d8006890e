-- Which departures a frequency row has, by their count.
use Rattle.std.proofs.Common.{◌≡◌, ◌∙◌, ◌<◌, ◌≤◌, ◌+◌, ◌-◌, ◌*◌, ℕ, zero, suc, Bool, true, false, List, [], ◌∷◌, ◌++◌}
use Rattle.std.proofs.Common.{map, length, sym, ap, refl, arith, nat_lt, if◌then◌else◌, ◌/◌, ◌%◌, append_assoc}
use Rattle.std.proofs.Math.Nat.{mul-le-mul_left, mul-le-mul_right}
use Rattle.std.proofs.lemmas.Bool.Decides.{nat_tests}
use Rattle.std.proofs.lemmas.List.FromFn.{filter_of_map_range_with_len_more, length-map-range_with_len}
use Rattle.std.proofs.lemmas.List.FromFn.{map-range_with_len_more}
use Rattle.std.specs.List.{filter, range_with_len}
use Rattle.gtfs_tables.specs.Feed.{IsDeparting}
use Rattle.table_files.specs.declared.frequencies.Departures.{Departures}
use Rattle.service_days.specs.Instances.{departing, departures_of, runs_of_row}
use Rattle.service_days.specs.declared.run.Run.{Run}
use Rattle.std.proofs.lemmas.List.{append-nil, length-map, map-append}

module _ (f : ℕ → ℕ) (p : ℕ → Bool) where
  step : (n : ℕ) → filter p (map f (range_with_len 0 (n + 1)))
      ≡ filter p (map f (range_with_len 0 n)) ++ (if p (f n) then f n ∷ [] else [])
  step n = filter_of_map_range_with_len_more p f 0 n n (omega arith)

  -- all of them pass
  kept : (n : ℕ) → ((x : ℕ) → x < n → p (f x) ≡ true) →
      filter p (map f (range_with_len 0 n)) ≡ map f (range_with_len 0 n)
  kept zero h = refl
  kept (suc n) h =
      let one : suc n ≡ n + 1 = omega arith in
      ap (λ m. filter p (map f (range_with_len 0 m))) one ∙ step n
      ∙ ap (λ b. filter p (map f (range_with_len 0 n)) ++ (if b then f n ∷ [] else [])) (h n (omega arith))
      ∙ ap (λ l. l ++ f n ∷ []) (kept n (λ x l. h x (omega arith)))
      ∙ sym (map-range_with_len_more f 0 n n (omega arith)) ∙ ap (λ m. map f (range_with_len 0 m)) (sym one)

  -- those past them don't
  passed : (n m : ℕ) → ((x : ℕ) → n ≤ x → p (f x) ≡ false) →
      filter p (map f (range_with_len 0 (n + m))) ≡ filter p (map f (range_with_len 0 n))
  passed n zero h = ap (λ m. filter p (map f (range_with_len 0 m))) (omega arith)
  passed n (suc m) h =
      let one : n + suc m ≡ n + m + 1 = omega arith in
      ap (λ m. filter p (map f (range_with_len 0 m))) one ∙ step (n + m)
      ∙ ap (λ b. filter p (map f (range_with_len 0 (n + m))) ++ (if b then f (n + m) ∷ [] else []))
      (h (n + m) (omega arith))
      ∙ append-nil (filter p (map f (range_with_len 0 (n + m)))) ∙ passed n m h

no_more : (start headway end count : ℕ) → 1 ≤ headway → ((x : ℕ) → x < count → start + x * headway < end) → count ≤ end
no_more start headway end zero h below = omega arith
no_more start headway end (suc k) h below =
    let last = below k (omega arith) in
    let m : k * 1 ≤ k * headway = mul-le-mul_left k h in
    omega arith

pub departures_by_count : (row : Departures) (count : ℕ) → IsDeparting row
    → ((x : ℕ) → x < count → row.start + x * row.headway < row.end) → row.end ≤ row.start + count * row.headway
    → departures_of row ≡ map (λ x. row.start + x * row.headway) (range_with_len 0 count)
departures_by_count row count is below past =
    let f : ℕ → ℕ = λ x. row.start + x * row.headway in
    let p : ℕ → Bool = λ time. nat_lt time row.end in
    let few = no_more row.start row.headway row.end count is.headway below in
    let all : row.end ≡ count + (row.end - count) = omega arith in
    let on : (x : ℕ) → x < count → p (f x) ≡ true = λ x l. (let b = below x l in grind (arith, nat_tests)) in
    let off : (x : ℕ) → count ≤ x → p (f x) ≡ false =
    λ x l. (let m : count * row.headway ≤ x * row.headway = mul-le-mul_right row.headway l in
    let b : row.end ≤ row.start + x * row.headway = omega arith in grind (arith, nat_tests)) in
    ap (λ n. filter p (map f (range_with_len 0 n))) all ∙ passed f p count (row.end - count) off ∙ kept f p count on

-- the count by division
pub departures_by_quotient : (row : Departures) → IsDeparting row → row.start < row.end
    → departures_of row ≡ map (λ x. row.start + x * row.headway)
    (range_with_len 0 ((row.end - row.start - 1) / row.headway + 1))
departures_by_quotient row is before =
    let n = row.end - row.start - 1 in
    let h = row.headway in
    let q = n / h in
    let positive : 0 < h = omega arith in
    let whole : h * q + n % h ≡ n = omega arith in
    let rest : n % h < h = omega arith in
    departures_by_count row (q + 1) is
    (λ x l. let m : x * h ≤ q * h = mul-le-mul_right h (omega arith) in omega arith)
    (omega arith)

-- a row has as many runs as departures
pub length_of_row : (base trip first : ℕ) (row : Departures) (count : ℕ) →
    departures_of row ≡ map (λ x. row.start + x * row.headway) (range_with_len 0 count)
    → length (runs_of_row base trip first row) ≡ count
length_of_row base trip first row count is =
    length-map (departures_of row) (departing base trip first) ∙ ap length is
    ∙ length-map-range_with_len (λ x. row.start + x * row.headway) 0 count

-- one more departure
pub row_more : (f : ℕ → Run) (g : ℕ → ℕ) (n : ℕ) (run : Run) (start old new : List Run) →
    old ≡ start ++ map f (map g (range_with_len 0 n)) → new ≡ old ++ run ∷ [] → run ≡ f (g n)
    → new ≡ start ++ map f (map g (range_with_len 0 (n + 1)))
row_more f g n run start old new before more is =
    more ∙ (λ k. before k ++ is k ∷ []) ∙ append_assoc start (map f (map g (range_with_len 0 n))) (f (g n) ∷ [])
    ∙ ap (λ l. start ++ l) (sym (ap (map f) (map-range_with_len_more g 0 n n (omega arith))
    ∙ map-append f (map g (range_with_len 0 n)) (g n ∷ [])))
