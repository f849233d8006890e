-- Minutes are counted sixteen at a time, and dead lanes are none.
use Rattle.std.proofs.Common.{List, [], get_or, slice_index, slice_index_or, length, take, sym, ap, subst, inl, inr}
use Rattle.std.proofs.Common.{◌∙◌, ◌≡◌, ◌≢◌, ◌≤◌, ◌<◌, ◌+◌, ◌*◌, ◌/◌, ◌%◌, ◌-◌, ℕ, zero, suc, Bool, Option, Some, None}
use Rattle.std.proofs.Common.{unwrap_or, leb, arith, refl, if◌then◌else◌}
use Rattle.std.specs.List.{count_by}
use Rattle.std.specs.Prelude.{IsTrue, ◌↔◌}
use Rattle.std.proofs.lemmas.List.Sums.{count_by_more_yes, count_by_more_no}
use Rattle.std.proofs.Math.Seq.{take-length}
use Rattle.std.proofs.lemmas.Bool.{cases_lt, cases_eq, le-leb, lt-leb}
use Rattle.std.proofs.lemmas.Bool.Decides.{nat_tests}
use Rattle.timetable.specs.declared.least.TheConstants.{NEVER}
use Rattle.rounds.specs.Table.{known_of, label_in}
use Rattle.shares.specs.Percentiles.{is_within, minutes_within, Attains, HoldMinutes, known_label}
use Rattle.shares.proofs.MinutesWithinLimits.{differs, within_label, count_alike}

-- what a minute adds to the count
abbrev adds : ℕ → Option ℕ → ℕ
adds d x = if is_within d x then 1 else 0

-- minutes that have no duration add nothing
count_past : (ds : ℕ → Option ℕ) (d n k : ℕ) → ((m : ℕ) → n ≤ m → m < n + k → ds m ≡ None) →
    minutes_within ds d (n + k) ≡ minutes_within ds d n
count_past ds d n zero none = ap (λ (j : ℕ). minutes_within ds d j) (let e : n + 0 ≡ n = omega arith in e)
count_past ds d n (suc k) none =
    let e : n + suc k ≡ suc (n + k) = omega arith in
    let more = ap (λ (j : ℕ). minutes_within ds d j) e in
    let rest = count_past ds d n k (λ m from to. none m from (omega (arith, to))) in
    let last : adds d (ds (n + k)) ≡ 0 = rw (none (n + k) (omega arith) (omega arith)) refl in
    omega (arith, more, rest, last)

-- the first minutes, and those after them
pub count_split : (ds : ℕ → Option ℕ) (d n k : ℕ) →
    minutes_within ds d (n + k) ≡ minutes_within ds d n + minutes_within (λ l. ds (n + l)) d k
count_split ds d n zero = let e = ap (λ (j : ℕ). minutes_within ds d j) (let e : n + 0 ≡ n = omega arith in e) in
    omega (arith, e)
count_split ds d n (suc k) =
    let e : n + suc k ≡ suc (n + k) = omega arith in
    let more = ap (λ (j : ℕ). minutes_within ds d j) e in
    let rest = count_split ds d n k in
    omega (arith, more, rest)

-- the minutes of a batch are its lanes
pub lane_label : (lanes : List (List ℕ)) (b l : ℕ) → l < 16 →
    label_in lanes (16 * b + l) ≡ slice_index (slice_index_or lanes b []) l
lane_label lanes b l h =
    let q : (16 * b + l) / 16 ≡ b = omega arith in
    let r : (16 * b + l) % 16 ≡ l = omega arith in
    ap (λ (i : ℕ). slice_index (slice_index_or lanes i []) ((16 * b + l) % 16)) q
    ∙ ap (λ (i : ℕ). slice_index (slice_index_or lanes b []) i) r

-- one more batch
pub count_batches : (lanes : List (List ℕ)) (d b : ℕ) →
    minutes_within (λ m. known_of (label_in lanes m)) d (16 * (b + 1))
    ≡ minutes_within (λ m. known_of (label_in lanes m)) d (16 * b) + minutes_within
    (λ l. known_of (slice_index (slice_index_or lanes b []) l)) d 16
count_batches lanes d b =
    let e : 16 * (b + 1) ≡ 16 * b + 16 = omega arith in
    let more = ap (λ (j : ℕ). minutes_within (λ m. known_of (label_in lanes m)) d j) e in
    let split = count_split (λ m. known_of (label_in lanes m)) d (16 * b) 16 in
    let alike = count_alike (λ l. known_of (label_in lanes (16 * b + l)))
    (λ l. known_of (slice_index (slice_index_or lanes b []) l)) d 16
    (λ l h. ap known_of (lane_label lanes b l h)) in
    more ∙ split ∙ ap (λ (k : ℕ). minutes_within (λ m. known_of (label_in lanes m)) d (16 * b) + k) alike

-- all lanes count as the minutes do
pub count_live : (lanes : List (List ℕ)) (n d : ℕ) → HoldMinutes lanes n →
    minutes_within (λ m. known_of (label_in lanes m)) d (16 * length lanes)
    ≡ minutes_within (λ m. known_of (label_in lanes m)) d n
count_live lanes n d are =
    let k : ℕ = 16 * length lanes - n in
    let e : 16 * length lanes ≡ n + k = omega (arith, are.batches) in
    ap (λ (j : ℕ). minutes_within (λ m. known_of (label_in lanes m)) d j) e
    ∙ count_past (λ m. known_of (label_in lanes m)) d n k
    (λ m from to. ap known_of (are.dead m from (omega (arith, to, e, are.batches))))

pub attains_counted : (ds : ℕ → Option ℕ) (n share d count : ℕ) → count ≡ minutes_within ds d n →
    IsTrue (leb (share * n) (100 * count)) ↔ Attains ds n share d
attains_counted ds n share d count e = (λ t. grind (arith, nat_tests, t, e), λ a. grind (arith, nat_tests, a, e))

one_more : (xs : List ℕ) (d n : ℕ) → d < NEVER → n < length xs →
    count_by (λ x. leb x d) (take (n + 1) xs) ≡ count_by (λ x. leb x d) (take n xs) + adds d (known_of (get_or xs n 0))
one_more xs d n low l = elim (cases_lt d (get_or xs n 0)) [
  | inl out ↦
      let no = lt-leb (get_or xs n 0) d out in
      let none : adds d (known_of (get_or xs n 0)) ≡ 0 = rw (within_label (get_or xs n 0) d low, no) refl in
      let same = count_by_more_no (λ x. leb x d) xs n 0 l no in
      omega (arith, none, same)
  | inr in_time ↦
      let yes = le-leb (get_or xs n 0) d in_time in
      let one : adds d (known_of (get_or xs n 0)) ≡ 1 = rw (within_label (get_or xs n 0) d low, yes) refl in
      let more = count_by_more_yes (λ x. leb x d) xs n 0 l yes in
      omega (arith, one, more)
]

count_first : (xs : List ℕ) (d n : ℕ) → d < NEVER → n ≤ length xs →
    count_by (λ x. leb x d) (take n xs) ≡ minutes_within (λ l. known_of (slice_index xs l)) d n
count_first xs d zero low h = refl
count_first xs d (suc n) low h =
    let e : suc n ≡ n + 1 = omega arith in
    let rest = count_first xs d n low (omega (arith, h)) in
    let more = one_more xs d n low (omega (arith, h)) in
    let next = ap (λ (k : ℕ). count_by (λ x. leb x d) (take k xs)) e in
    omega (arith, rest, more, next)

-- the lanes that hold at most d
pub count_lanes : (xs : List ℕ) (d n : ℕ) → d < NEVER → length xs ≡ n →
    count_by (λ x. leb x d) xs ≡ minutes_within (λ l. known_of (slice_index xs l)) d n
count_lanes xs d n low e = ap (count_by (λ x. leb x d)) (sym (subst (λ (k : ℕ). take k xs ≡ xs) e (take-length xs)))
    ∙ count_first xs d n low (omega (arith, e))

-- a duration that is known is the label
known_is : (x d : ℕ) → known_of x ≡ Some d → known_label x ≡ d
known_is x d is = elim (cases_eq x NEVER) [
  | inl e ↦ let none : None ≡ Some d = subst (λ (y : ℕ). known_of y ≡ Some d) e is in absurd (cc)
  | inr n ↦
      let some : Some x ≡ Some d = subst (λ (b : Bool). (if b then None else Some x) ≡ Some d) (differs x n) is in
      let same : x ≡ d = ap (λ (o : Option ℕ). unwrap_or o 0) some in
      rw (differs x n) same
]

pub never_known : (x : ℕ) → known_label x ≢ NEVER
never_known x = elim (cases_eq x NEVER) [
  | inl e ↦ rw e (λ z. omega (arith, z))
  | inr n ↦ rw (differs x n) n
]

-- a minute of the batches so far, or of one more
pub reached_more : (lanes : List (List ℕ)) (high higher : List ℕ) (b m d : ℕ) →
    ((k e : ℕ) → k < 16 * b → known_of (label_in lanes k) ≡ Some e → e ≤ slice_index high (k % 16))
    → ((l : ℕ) → l < 16 → slice_index high l ≤ slice_index higher l)
    → ((l : ℕ) → l < 16 → known_label (slice_index (slice_index_or lanes b []) l) ≤ slice_index higher l)
    → m < 16 * (b + 1) → known_of (label_in lanes m) ≡ Some d → d ≤ slice_index higher (m % 16)
reached_more lanes high higher b m d before up here h is = elim (cases_lt m (16 * b)) [
  | inl l ↦ let low = before m d l is in let more = up (m % 16) (omega arith) in omega (arith, low, more)
  | inr g ↦
      let place : 16 * b + m % 16 ≡ m = omega (arith, h, g) in
      let label = ap (λ (k : ℕ). label_in lanes k) (sym place) ∙ lane_label lanes b (m % 16) (omega arith) in
      let same = known_is (slice_index (slice_index_or lanes b []) (m % 16)) d (ap known_of (sym label) ∙ is) in
      let reached = here (m % 16) (omega arith) in
      omega (arith, same, reached)
]
