-- One lane of a choice between two vectors, of n lanes of some width.
use Rattle.std.proofs.Common.{◌≡◌, ℕ, zero, suc, [], ◌∷◌, ◌+◌, ◌-◌, ◌^◌, ◌<◌, ◌≤◌, Bool, true, false, cond, eqb, ltb}
use Rattle.std.proofs.Common.{min, max, List, length, get_or, map, replicate, refl, sym, ◌∙◌, ap, arith}
use Rattle.std.proofs.lemmas.Simd.{tops_compared, get_or-sel_l, get_or-zip2, length-zip2, mask_l-mod, length-sel_l}
use Rattle.std.proofs.lemmas.Simd.{get_or-replicate, length-replicate}
use Rattle.std.proofs.lemmas.Bool.Decides.{nat_tests}
use Rattle.std.proofs.lemmas.Bool.{false≢true, lt-ltb, eq-eqb, eqb-true}
use Rattle.std.specs.Prelude.{not, IsTrue, nat_eq, slice_index, ◌↔◌, ◌%◌}
use borrow.Author.Tests.{ltb-true}
use Rattle.std.proofs.Math.Nat.{mod-eq_of_lt, add-mod_left, one-le-pow, two-pow-succ}
use lib.Lanes.{sel_l, zip2, top, mask_l}
use mir.Syntax.{Width}
use mir.Val.{bits, hbits}

pub min_if : (a b : ℕ) → cond (ltb a b) a b ≡ min a b
min_if a b = grind (arith, nat_tests)

pub max_if : (a b : ℕ) → cond (ltb a b) b a ≡ max a b
max_if a b = grind (arith, nat_tests)

-- the top bits of a comparison, lane by lane
abbrev pub tops_of : Width → (ℕ → ℕ → Bool) → List ℕ → List ℕ → List Bool
tops_of w t xs ys = map (top (hbits w)) (zip2 (λ a b. cond (t a b) (2 ^ bits w - 1) 0) xs ys)

-- the lanes of us where the comparison holds, and of vs elsewhere
abbrev pub chosen : Width → (ℕ → ℕ → Bool) → List ℕ → List ℕ → List ℕ → List ℕ → List ℕ
chosen w t xs ys us vs = sel_l (tops_of w t xs ys) us vs

-- a sum that stops at the greatest number
pub capped : (t s most : ℕ) → s ≤ most → (min t (most - s) + s) % suc most ≡ min (t + s) most
capped t s most h =
    let low : min t (most - s) + s ≡ min (t + s) most = omega arith in
    let lt : min (t + s) most < suc most = omega arith in
    rw low (mod-eq_of_lt lt)

-- a difference that isn't below 0
pub less : (t s m : ℕ) → s ≤ t → t < m → (t + (m - s)) % m + s ≡ t
less t s m le lt =
    let again : t + (m - s) ≡ m + (t - s) = omega arith in
    let small : (m + (t - s)) % m ≡ t - s = add-mod_left m (t - s) ∙ mod-eq_of_lt (omega arith) in
    rw (again, small) (omega arith)

-- a mask that isn't 0 has a bit that is set, and the other way round
pub some_set : (ms : List Bool) → (mask_l ms ≡ 0 → ⊥) → (i : ℕ) × (i < length ms) × (get_or ms i false ≡ true)
some_set [] h = absurd (h refl)
some_set (true ∷ ms) h = (0, omega arith, refl)
some_set (false ∷ ms) h =
    let rest = some_set ms (λ e. h (omega (arith, e))) in
    (suc rest.0, omega (arith, rest.1), rest.2)

pub set_some : (ms : List Bool) (i : ℕ) → i < length ms → get_or ms i false ≡ true → 0 < mask_l ms
set_some [] i l e = absurd (omega arith)
set_some (true ∷ ms) i l e = omega arith
set_some (false ∷ ms) zero l e = absurd (cc)
set_some (false ∷ ms) (suc i) l e = let rest = set_some ms i (omega arith) e in omega arith

-- where all bits are set, each is
pub all_set : (ms : List Bool) (i : ℕ) → i < length ms → mask_l ms ≡ 2 ^ length ms - 1 → get_or ms i false ≡ true
all_set [] i l e = absurd (omega arith)
all_set (false ∷ ms) i l e = absurd (omega (arith, e, two-pow-succ (length ms), one-le-pow (length ms) 2 (omega arith)))
all_set (true ∷ ms) zero l e = refl
all_set (true ∷ ms) (suc i) l e = all_set ms i (omega arith)
    (omega (arith, e, two-pow-succ (length ms), one-le-pow (length ms) 2 (omega arith)))

-- and where each is, all are
set_all : (ms : List Bool) → ((i : ℕ) → i < length ms → get_or ms i false ≡ true) → mask_l ms ≡ 2 ^ length ms - 1
set_all [] each = refl
set_all (false ∷ ms) each = absurd (false≢true (each 0 (omega arith)))
set_all (true ∷ ms) each =
    let rest = set_all ms (λ i l. each (suc i) (omega arith)) in
    omega (arith, rest, two-pow-succ (length ms), one-le-pow (length ms) 2 (omega arith))

lower_where_other : (a b : ℕ) → a ≤ b → not (eqb a b) ≡ true → a < b
lower_where_other a b le other = grind (arith, nat_tests)

other_where_lower : (a b : ℕ) → a < b → not (eqb a b) ≡ true
other_where_lower a b lt = grind (arith, nat_tests)

module _ (w : Width) (n : ℕ) where
  pub sel_at : (t : ℕ → ℕ → Bool) (xs ys us vs : List ℕ) (l : ℕ) → l < n → length xs ≡ n → length ys ≡ n →
      length us ≡ n → length vs ≡ n → get_or (chosen w t xs ys us vs) l 0
      ≡ cond (t (get_or xs l 0) (get_or ys l 0)) (get_or us l 0) (get_or vs l 0)
  sel_at t xs ys us vs l h xl yl ul vl =
      let e : length (zip2 t xs ys) ≡ n = length-zip2 t xs ys (xl ∙ sym yl) ∙ xl in
      rw (tops_compared w t xs ys) (get_or-sel_l (zip2 t xs ys) us vs l 0 (omega arith) (omega arith) (omega arith)
      ∙ ap (λ b. cond b (get_or us l 0) (get_or vs l 0))
      (get_or-zip2 t xs ys l 0 0 false (omega arith) (omega arith)))

  pub length-chosen : (t : ℕ → ℕ → Bool) (xs ys us vs : List ℕ) → length xs ≡ n → length ys ≡ n → length us ≡ n →
      length vs ≡ n → length (chosen w t xs ys us vs) ≡ n
  length-chosen t xs ys us vs xl yl ul vl =
      let e : length (zip2 t xs ys) ≡ n = length-zip2 t xs ys (xl ∙ sym yl) ∙ xl in
      rw (tops_compared w t xs ys) (length-sel_l (zip2 t xs ys) us vs (e ∙ sym ul) (e ∙ sym vl) ∙ e)

  -- the larger of a lane and a number
  pub larger_at : (xs : List ℕ) (y : ℕ) (l : ℕ) → l < n → length xs ≡ n →
      get_or (chosen w ltb xs (replicate n y) (replicate n y) xs) l 0 ≡ max (get_or xs l 0) y
  larger_at xs y l h xl =
      let yl : length (replicate n y) ≡ n = length-replicate n y in
      sel_at ltb xs (replicate n y) (replicate n y) xs l h xl yl yl xl
      ∙ rw (get_or-replicate n l y 0 h) (max_if (get_or xs l 0) y)

  -- the smaller of two lanes
  pub smaller_at : (xs ys : List ℕ) (l : ℕ) → l < n → length xs ≡ n → length ys ≡ n →
      get_or (chosen w ltb xs ys xs ys) l 0 ≡ min (get_or xs l 0) (get_or ys l 0)
  smaller_at xs ys l h xl yl = sel_at ltb xs ys xs ys l h xl yl xl yl ∙ min_if (get_or xs l 0) (get_or ys l 0)

  pub higher_at : (xs ys : List ℕ) (l : ℕ) → l < n → length xs ≡ n → length ys ≡ n →
      get_or (chosen w ltb xs ys ys xs) l 0 ≡ max (get_or xs l 0) (get_or ys l 0)
  higher_at xs ys l h xl yl = sel_at ltb xs ys ys xs l h xl yl yl xl ∙ max_if (get_or xs l 0) (get_or ys l 0)

  -- the smaller of a lane, and of the larger of its bar and a number
  pub alights_at : (old bar : List ℕ) (arrive l : ℕ) → l < n → length old ≡ n → length bar ≡ n
      → get_or (chosen w ltb old (chosen w ltb bar (replicate n arrive) (replicate n arrive) bar) old
      (chosen w ltb bar (replicate n arrive) (replicate n arrive) bar)) l 0
      ≡ min (get_or old l 0) (max (get_or bar l 0) arrive)
  alights_at old bar arrive l h old_len bar_len =
      let arrives = replicate n arrive in
      let arrives_len : length arrives ≡ n = length-replicate n arrive in
      let best = chosen w ltb bar arrives arrives bar in
      let best_len = length-chosen ltb bar arrives arrives bar bar_len arrives_len arrives_len bar_len in
      smaller_at old best l h old_len best_len ∙ ap (λ m. min (get_or old l 0) m) (larger_at bar arrive l h bar_len)

  -- a lane that is later by some seconds, where sums stop at the greatest number
  pub later_at : (times room : List ℕ) (seconds most l : ℕ) → l < n → length times ≡ n → length room ≡ n →
      get_or room l 0 ≡ most - seconds → seconds ≤ most
      → get_or (zip2 (λ a b. (a + b) % suc most) (chosen w ltb times room times room) (replicate n seconds)) l 0
      ≡ min (get_or times l 0 + seconds) most
  later_at times room seconds most l h times_len room_len left fits =
      let early = chosen w ltb times room times room in
      let early_len = length-chosen ltb times room times room times_len room_len times_len room_len in
      let more_len : length (replicate n seconds) ≡ n = length-replicate n seconds in
      get_or-zip2 _ early (replicate n seconds) l 0 0 0 (omega (arith, early_len)) (omega (arith, more_len))
      ∙ rw (smaller_at times room l h times_len room_len, left, get_or-replicate {A = ℕ} n l seconds 0 h)
      (capped (get_or times l 0) seconds most fits)

  -- where room for seconds is a difference of vectors
  pub room_at : (seconds most l : ℕ) → l < n → seconds ≤ most →
      get_or (zip2 (λ a b. (a + (suc most - b)) % suc most) (replicate n most) (replicate n seconds)) l 0
      ≡ most - seconds
  room_at seconds most l h fits =
      let most_len : length (replicate n most) ≡ n = length-replicate n most in
      let more_len : length (replicate n seconds) ≡ n = length-replicate n seconds in
      let again : most + (suc most - seconds) ≡ suc most + (most - seconds) = omega arith in
      get_or-zip2 _ (replicate n most) (replicate n seconds) l 0 0 0 (omega (arith, most_len)) (omega (arith, more_len))
      ∙ rw (get_or-replicate {A = ℕ} n l most 0 h, get_or-replicate {A = ℕ} n l seconds 0 h, again)
      (add-mod_left (suc most) (most - seconds) ∙ mod-eq_of_lt (omega arith))

  pub any_lower : n ≤ 64 → (xs ys : List ℕ) → length xs ≡ n → length ys ≡ n →
      IsTrue (not (nat_eq (mask_l (tops_of w ltb xs ys) % 2 ^ 64) 0))
      ↔ ((l : ℕ) × (l < n) × (slice_index xs l < slice_index ys l))
  any_lower few xs ys xl yl =
      let e : length (zip2 ltb xs ys) ≡ n = length-zip2 ltb xs ys (xl ∙ sym yl) ∙ xl in
      let whole = mask_l-mod (zip2 ltb xs ys) 64 (omega arith) in
      rw (tops_compared w ltb xs ys, whole) (
        λ t.
            let found = some_set (zip2 ltb xs ys) (λ z. false≢true (rw z at t)) in
            let lt : found.0 < n = omega (arith, found.1) in
            let at = get_or-zip2 ltb xs ys found.0 0 0 false (omega arith) (omega arith) in
            (found.0, lt, ltb-true (get_or xs found.0 0) (get_or ys found.0 0) (sym at ∙ found.2)),
        λ s.
            let at = get_or-zip2 ltb xs ys s.0 0 0 false (omega (arith, s.1)) (omega (arith, s.1)) in
            let pos : 0 < mask_l (zip2 ltb xs ys) = set_some (zip2 ltb xs ys) s.0 (omega (arith, s.1)) (at
            ∙ lt-ltb (get_or xs s.0 0) (get_or ys s.0 0) s.2) in
            grind (arith, nat_tests),
      )

  -- two vectors differ, of which the first is nowhere higher
  pub any_other : n ≤ 64 → (xs ys : List ℕ) → length xs ≡ n → length ys ≡ n →
      ((l : ℕ) → l < n → slice_index xs l ≤ slice_index ys l) →
      IsTrue (not (nat_eq (mask_l (tops_of w (λ a b. not (eqb a b)) xs ys) % 2 ^ 64) 0))
      ↔ ((l : ℕ) × (l < n) × (slice_index xs l < slice_index ys l))
  any_other few xs ys xl yl no_higher =
      let t : ℕ → ℕ → Bool = λ a b. not (eqb a b) in
      let e : length (zip2 t xs ys) ≡ n = length-zip2 t xs ys (xl ∙ sym yl) ∙ xl in
      let whole = mask_l-mod (zip2 t xs ys) 64 (omega arith) in
      rw (tops_compared w t xs ys, whole) (
        λ set.
            let found = some_set (zip2 t xs ys) (λ z. false≢true (rw z at set)) in
            let lt : found.0 < n = omega (arith, found.1) in
            let at = get_or-zip2 t xs ys found.0 0 0 false (omega arith) (omega arith) in (
              found.0,
              lt,
              lower_where_other (get_or xs found.0 0) (get_or ys found.0 0) (no_higher found.0 lt) (sym at
                  ∙ found.2),
            ),
        λ s.
            let at = get_or-zip2 t xs ys s.0 0 0 false (omega (arith, s.1)) (omega (arith, s.1)) in
            let pos : 0 < mask_l (zip2 t xs ys) = set_some (zip2 t xs ys) s.0 (omega (arith, s.1)) (at
            ∙ other_where_lower (get_or xs s.0 0) (get_or ys s.0 0) s.2) in
            grind (arith, nat_tests),
      )

  -- where a comparison holds in all lanes, it does in each
  pub each_holds : n ≤ 64 → (t : ℕ → ℕ → Bool) (xs ys : List ℕ) (l : ℕ) → l < n → length xs ≡ n → length ys ≡ n →
      IsTrue (nat_eq (mask_l (tops_of w t xs ys) % 2 ^ 64) (2 ^ n - 1)) → t (get_or xs l 0) (get_or ys l 0) ≡ true
  each_holds few t xs ys l h xl yl whole =
      let ms = zip2 t xs ys in
      let e : length ms ≡ n = length-zip2 t xs ys (xl ∙ sym yl) ∙ xl in
      let word : mask_l (tops_of w t xs ys) % 2 ^ 64 ≡ mask_l ms =
      rw (tops_compared w t xs ys) (mask_l-mod ms 64 (omega arith)) in
      let full : mask_l ms ≡ 2 ^ length ms - 1 = rw e (eqb-true (mask_l ms) (2 ^ n - 1) (rw word at whole)) in
      sym (get_or-zip2 t xs ys l 0 0 false (omega arith) (omega arith)) ∙ all_set ms l (omega arith) full

  -- and where it does in each, in all
  pub all_hold : n ≤ 64 → (t : ℕ → ℕ → Bool) (xs ys : List ℕ) → length xs ≡ n → length ys ≡ n →
      ((l : ℕ) → l < n → t (get_or xs l 0) (get_or ys l 0) ≡ true) →
      IsTrue (nat_eq (mask_l (tops_of w t xs ys) % 2 ^ 64) (2 ^ n - 1))
  all_hold few t xs ys xl yl each =
      let ms = zip2 t xs ys in
      let e : length ms ≡ n = length-zip2 t xs ys (xl ∙ sym yl) ∙ xl in
      let word : mask_l (tops_of w t xs ys) % 2 ^ 64 ≡ mask_l ms =
      rw (tops_compared w t xs ys) (mask_l-mod ms 64 (omega arith)) in
      let full : mask_l ms ≡ 2 ^ length ms - 1 =
      set_all ms (λ l h. get_or-zip2 t xs ys l 0 0 false (omega arith) (omega arith)
      ∙ each l (omega (arith, h, e))) in
      eq-eqb (mask_l (tops_of w t xs ys) % 2 ^ 64) (2 ^ n - 1) (word ∙ (full ∙ ap (λ (i : ℕ). 2 ^ i - 1) e))
