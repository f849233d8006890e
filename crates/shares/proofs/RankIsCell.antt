-- The label of a rank is the cell of a share.
use Rattle.std.proofs.Common.{List, [], ◌++◌, get_or, slice_index, slice_index_or, length, sym, ap, inl, inr, ◌∙◌, ◌≡◌}
use Rattle.std.proofs.Common.{◌≤◌, ◌<◌, ◌+◌, ◌*◌, ◌%◌, ◌-◌, ◌^◌, ◌⊎◌, ◌∷◌, ℕ, zero, suc, Bool, true, false, cond, leb}
use Rattle.std.proofs.Common.{ltb, Some, None, arith, refl}
use Rattle.std.specs.List.{count_by}
use Rattle.std.proofs.lemmas.List.{get_or_past}
use Rattle.std.proofs.lemmas.List.Recursion.{is_count_by}
use Rattle.std.proofs.lemmas.Nat.{pow-add, pow_pos, mod-mul-add, and_le_r}
use Rattle.std.proofs.Math.Nat.{mod-eq_of_lt}
use Rattle.std.proofs.lemmas.Bool.{cases_lt, cases_eq, lt-leb}
use Rattle.std.proofs.lemmas.Bool.Decides.{nat_tests}
use Rattle.timetable.specs.declared.least.TheConstants.{NEVER}
use Rattle.rounds.specs.Table.{known_of, label_in, IsLeastOrNone}
use Rattle.shares.specs.Percentiles.{minutes_within, Attains, HoldMinutes, IsTop}
use Rattle.shares.specs.Planes.{IsRanked, block, count_of, has, how_many, words_of}
use Rattle.shares.proofs.MinutesWithinLimits.{differs, count_more, count_top}
use Rattle.shares.proofs.MinutesCounted.{lane_label, count_lanes, count_live, count_batches}
use Rattle.shares.proofs.Masks.{count_same}
use Rattle.shares.proofs.RankAmongMinutes.{Rank}

abbrev row : List (List ℕ) → ℕ → List ℕ
row lanes i = slice_index_or lanes i []

-- how many labels of the first batches are of a kind
abbrev rows_of : (ℕ → Bool) → List (List ℕ) → ℕ → ℕ
rows_of P lanes zero = 0
rows_of P lanes (suc n) = rows_of P lanes n + how_many P (row lanes n)

many_joined : (P : ℕ → Bool) (xs ys : List ℕ) → how_many P (xs ++ ys) ≡ how_many P xs + how_many P ys
many_joined P [] ys = omega arith
many_joined P (x ∷ xs) ys = let rest = many_joined P xs ys in omega (arith, rest)

-- a block is four batches
blocks_are_rows : (P : ℕ → Bool) (lanes : List (List ℕ)) (w : ℕ) → count_of P lanes w ≡ rows_of P lanes (4 * w)
unfolding block
blocks_are_rows P lanes zero = refl
blocks_are_rows P lanes (suc w) =
    let rest = blocks_are_rows P lanes w in
    let a = row lanes (4 * w) in
    let b = row lanes (4 * w + 1) in
    let c = row lanes (4 * w + 2) in
    let d = row lanes (4 * w + 3) in
    let x = many_joined P a (b ++ (c ++ d)) in
    let y = many_joined P b (c ++ d) in
    let z = many_joined P c d in
    let four : 4 * suc w ≡ suc (4 * w + 3) = omega arith in
    let three : 4 * w + 3 ≡ suc (4 * w + 2) = omega arith in
    let two : 4 * w + 2 ≡ suc (4 * w + 1) = omega arith in
    let one : 4 * w + 1 ≡ suc (4 * w) = omega arith in
    let p = ap (λ (k : ℕ). rows_of P lanes k) four in
    let q = ap (λ (k : ℕ). rows_of P lanes k) three in
    let r = ap (λ (k : ℕ). rows_of P lanes k) two in
    let s = ap (λ (k : ℕ). rows_of P lanes k) one in
    omega (arith, rest, x, y, z, p, q, r, s)

-- past the last batch there are none
rows_past : (P : ℕ → Bool) (lanes : List (List ℕ)) (k : ℕ) →
    rows_of P lanes (length lanes + k) ≡ rows_of P lanes (length lanes)
rows_past P lanes zero = ap (λ (j : ℕ). rows_of P lanes j) (let e : length lanes + 0 ≡ length lanes = omega arith in e)
rows_past P lanes (suc k) =
    let e : length lanes + suc k ≡ suc (length lanes + k) = omega arith in
    let more = ap (λ (j : ℕ). rows_of P lanes j) e in
    let none = ap (how_many P) (get_or_past lanes (length lanes + k) [] (omega arith)) in
    omega (arith, more, none, rows_past P lanes k)

pub all_rows : (P : ℕ → Bool) (lanes : List (List ℕ)) →
    count_of P lanes (words_of lanes) ≡ rows_of P lanes (length lanes)
all_rows P lanes =
    let k : ℕ = 4 * words_of lanes - length lanes in
    let e : 4 * words_of lanes ≡ length lanes + k = omega arith in
    blocks_are_rows P lanes (words_of lanes) ∙ (ap (λ (j : ℕ). rows_of P lanes j) e ∙ rows_past P lanes k)

many_alike : (P Q : ℕ → Bool) (xs : List ℕ) → ((l : ℕ) → l < length xs → P (get_or xs l 0) ≡ Q (get_or xs l 0)) →
    how_many P xs ≡ how_many Q xs
many_alike P Q [] same = refl
many_alike P Q (x ∷ xs) same =
    let rest = many_alike P Q xs (λ l h. same (suc l) (omega (arith, h))) in
    let here = ap {B = ℕ} (λ (b : Bool). cond b 1 0) (same 0 (omega arith)) in
    omega (arith, rest, here)

many_all : (xs : List ℕ) → how_many (has 0) xs ≡ length xs
many_all [] = refl
many_all (x ∷ xs) =
    let rest = many_all xs in
    let low = and_le_r x 0 in
    let one = ap {B = ℕ} (λ (b : Bool). cond b 1 0) (let e : has 0 x ≡ true = grind (arith, nat_tests, low) in e) in
    omega (arith, rest, one)

many_counted : (P : ℕ → Bool) (xs : List ℕ) → how_many P xs ≡ count_by P xs
many_counted P xs = is_count_by (how_many P) P refl (λ x ys. step (P x) (how_many P ys)) xs
  where
    step : (b : Bool) (n : ℕ) → cond b 1 0 + n ≡ cond b (1 + n) n
    step true n = refl
    step false n = omega arith

many_below : (P Q : ℕ → Bool) (xs : List ℕ) → ((x : ℕ) → cond (P x) 1 0 ≤ cond (Q x) 1 0) →
    how_many P xs ≤ how_many Q xs
many_below P Q [] less = omega arith
many_below P Q (x ∷ xs) less = let rest = many_below P Q xs less in let here = less x in omega (arith, rest, here)

count_below : (P Q : ℕ → Bool) (lanes : List (List ℕ)) (w : ℕ) → ((x : ℕ) → cond (P x) 1 0 ≤ cond (Q x) 1 0) →
    count_of P lanes w ≤ count_of Q lanes w
count_below P Q lanes zero less = omega arith
count_below P Q lanes (suc w) less = let rest = count_below P Q lanes w less in
    let here = many_below P Q (block lanes w) less in omega (arith, rest, here)

-- NEVER, cut to so many bits, is their greatest number
never_cut : (bits : ℕ) → bits ≤ 32 → NEVER % 2 ^ bits + 1 ≡ 2 ^ bits
never_cut bits few =
    let q = 2 ^ (32 - bits) in
    let w = 2 ^ bits in
    let some = pow_pos (32 - bits) in
    let pos = pow_pos bits in
    let a : ℕ = q - 1 in
    let e : a + 1 ≡ q = omega (arith, some) in
    let whole : q * w ≡ 2 ^ 32 = sym (pow-add 2 (32 - bits) bits)
    ∙ ap (λ (k : ℕ). 2 ^ k) (let f : 32 - bits + bits ≡ 32 = omega (arith, few) in f) in
    let product : (a + 1) * w ≡ 2 ^ 32 = ap (λ (k : ℕ). k * w) e ∙ whole in
    let place : a * w + (w - 1) ≡ NEVER = omega (arith, product, pos) in
    let rest : NEVER % w ≡ w - 1 = ap (λ (n : ℕ). n % w) (sym place) ∙ mod-mul-add a w (w - 1) (omega (arith, pos)) in
    omega (arith, rest, pos)

-- to cut a label changes nothing of what is at most the greatest
cut_alike : (bits top v x : ℕ) → bits ≤ 32 → top + 1 < 2 ^ bits → v ≤ top → top < NEVER → (x ≡ NEVER) ⊎ (x ≤ top) →
    leb (x % 2 ^ bits) v ≡ leb x v
cut_alike bits top v x few fits low known is = elim is [
  | inl never ↦
      let cut = never_cut bits few in
      let a = lt-leb (NEVER % 2 ^ bits) v (omega (arith, cut, fits, low)) in
      let b = lt-leb NEVER v (omega (arith, low, known)) in
      rw never (a ∙ sym b)
  | inr within ↦ ap (λ (n : ℕ). leb n v) (mod-eq_of_lt (let l : x < 2 ^ bits = omega (arith, within, fits) in l))
]

module _ (lanes : List (List ℕ)) (minutes bits top : ℕ) (rows : (i : ℕ) → i < length lanes →
    length (row lanes i) ≡ 16) (are : HoldMinutes lanes minutes) (few : bits ≤ 32) (fits : top + 1
    < 2 ^ bits) (known : top < NEVER) (is_top : IsTop lanes top) where
  label_known : (b l : ℕ) → b < length lanes → l < 16 →
      (slice_index (row lanes b) l ≡ NEVER) ⊎ (slice_index (row lanes b) l ≤ top)
  label_known b l inside h =
      let x = slice_index (row lanes b) l in
      elim (cases_eq x NEVER) [
        | inl e ↦ inl e
        | inr ne ↦
            let some : known_of x ≡ Some x = rw (differs x ne) refl in
            let label = lane_label lanes b l h in
            inr (is_top (16 * b + l) x (omega (arith, inside, h)) (ap known_of label ∙ some))
      ]

  -- in the first batches
  rows_counted : (v n : ℕ) → v ≤ top → n ≤ length lanes →
      rows_of (λ x. leb (x % 2 ^ bits) v) lanes n ≡ minutes_within (λ m. known_of (label_in lanes m)) v (16 * n)
  rows_counted v zero low inside = refl
  rows_counted v (suc n) low inside =
      let here = row lanes n in
      let long = rows n (omega (arith, inside)) in
      let alike = many_alike (λ x. leb (x % 2 ^ bits) v) (λ x. leb x v) here
      (λ l h. cut_alike bits top v (slice_index here l) few fits low known
      (label_known n l (omega (arith, inside)) (omega (arith, h, long)))) in
      let counted = many_counted (λ x. leb x v) here ∙ count_lanes here v 16 (omega (arith, low, known)) long in
      let more = count_batches lanes v n in
      let next = ap (λ (k : ℕ). minutes_within (λ m. known_of (label_in lanes m)) v (16 * k)) (let e : suc n ≡ n + 1 =
      omega arith in e) in
      let rest = rows_counted v n low (omega (arith, inside)) in
      omega (arith, alike, counted, more, next, rest)

  -- labels that are cut count as the minutes do, up to the greatest
  count_cut : (v : ℕ) → v ≤ top → count_of (λ x. leb (x % 2 ^ bits) v) lanes (words_of lanes)
      ≡ minutes_within (λ m. known_of (label_in lanes m)) v minutes
  count_cut v low = all_rows (λ x. leb (x % 2 ^ bits) v) lanes
      ∙ (rows_counted v (length lanes) low (omega arith) ∙ count_live lanes minutes v are)

  rows_all : (n : ℕ) → n ≤ length lanes → rows_of (has 0) lanes n ≡ 16 * n
  rows_all zero inside = refl
  rows_all (suc n) inside = let rest = rows_all n (omega (arith, inside)) in let here = many_all (row lanes n) in
      let long = rows n (omega (arith, inside)) in omega (arith, rest, here, long)

  pub minutes_shown : minutes ≤ count_of (has 0) lanes (words_of lanes)
  minutes_shown = let all = all_rows (has 0) lanes ∙ rows_all (length lanes) (omega arith) in
      omega (arith, all, are.batches)

  pub cell_ranked : (share place value : ℕ) → Rank minutes share place → IsRanked lanes bits (place + 1) value →
      value ≤ top → IsLeastOrNone (Attains (λ m. known_of (label_in lanes m)) minutes share) (Some value)
  cell_ranked share place value rank is low =
      record {
        holds = (let here = count_cut value low in omega (arith, here, is.upto, rank.high));
        least = λ e a. elim (cases_lt e value) [
          | inl l ↦
              let before = count_cut (value - 1) (omega (arith, low)) in
              let same = count_same (λ x. ltb (x % 2 ^ bits) value) (λ x. leb (x % 2 ^ bits) (value - 1)) lanes
              (words_of lanes) (λ x. less_one (x % 2 ^ bits) value (omega (arith, l))) in
              let more = count_more (λ m. known_of (label_in lanes m)) minutes e (value - 1) (omega (arith, l)) in
              absurd (omega (arith, before, same, more, a, is.below, rank.low))
          | inr g ↦ g
        ];
      }
    where
      less_one : (y v : ℕ) → 0 < v → ltb y v ≡ leb y (v - 1)
      less_one y v pos = grind (arith, nat_tests, pos)

  pub none_ranked : (share place value : ℕ) → Rank minutes share place → IsRanked lanes bits (place + 1) value →
      top < value → IsLeastOrNone (Attains (λ m. known_of (label_in lanes m)) minutes share) None
  none_ranked share place value rank is past = λ e a.
      let most = count_top (λ m. known_of (label_in lanes m)) minutes top e
      (λ m s l k. is_top m s (omega (arith, l, are.batches)) k) in
      let here = count_cut top (omega arith) in
      let fewer = count_below (λ x. leb (x % 2 ^ bits) top) (λ x. ltb (x % 2 ^ bits) value) lanes (words_of lanes)
      (λ x. before (x % 2 ^ bits)) in
      omega (arith, most, here, fewer, a, is.below, rank.low)
    where
      before : (y : ℕ) → cond (leb y top) 1 0 ≤ cond (ltb y value) 1 0
      before y = grind (arith, nat_tests, past)
