-- How a rank is found in one lane.
use Rattle.std.proofs.Common.{◌≡◌, ◌≤◌, ◌<◌, ◌≢◌, ◌+◌, ◌-◌, ◌*◌, ◌^◌, ℕ, Bool, cond, ltb, List, length, inl, inr, ap}
use Rattle.std.proofs.Common.{sym, subst, ◌∙◌, arith}
use Rattle.std.proofs.lemmas.Bool.{cases_lt, lt-ltb, le-ltb}
use Rattle.label_cells.specs.declared.split_runs.SplitRun.{SplitRun}
use Rattle.label_cells.specs.Places.{IsPlaced, IsFirstPlaced, IsLeft, IsBetween}
use Rattle.label_cells.specs.SplitRuns.{AreSmall, under_at, cover_at, whole_at, rest_at, reached_at}
use Rattle.label_cells.specs.Runs.{Brackets}
use Rattle.label_cells.specs.Sums.{sum_to}
use Rattle.label_cells.proofs.CellSelected.{under_none, bit_up, bit_down, few_up, few_down, cover_none, seconds_first}
use Rattle.label_cells.proofs.CellSelected.{seconds_few, under_all}

module _ (rows : List SplitRun) (l : ℕ) (small : AreSmall rows) (h : l < 16) where
  less : (i : ℕ) → i < length rows → rest_at rows l i < 60
  less i there = small.less l i h there

  none : under_at rows l 0 ≡ 0
  none = under_none (length rows) (whole_at rows l) (rest_at rows l) (reached_at rows l) less (length rows)

  pub placed_first : (rank end : ℕ) → IsFirstPlaced rows l rank end → IsPlaced rows l rank 0 0 end end
  placed_first rank end first = record {
    few = omega arith;
    is = sym none;
    low = (let some = first.some in omega (arith, some));
    halves = λ known. record {
      low = (let some = first.some in omega (arith, none, some));
      high = (let top = first.top known in
          let same = ap (λ (t : ℕ). under_at rows l t) (let e : 0 + end ≡ end = omega arith in e) in
          omega (arith, top, same));
    };
  }

  pub placed_next : (rank whole under n k half to count end : ℕ) → k < n → half ≡ 2 ^ (n - 1 - k) → to ≡ whole + half →
      count ≡ under_at rows l to → IsPlaced rows l rank whole under (2 ^ (n - k)) end →
      IsPlaced rows l rank (cond (ltb count rank) to whole) (cond (ltb count rank) count under) (2 ^ (n - (k + 1))) end
  placed_next rank whole under n k half to count end in_bits power is counted old = elim (cases_lt count rank) [
    | inl up ↦
        let there : count ≡ under_at rows l (whole + half) = counted ∙ ap (λ (t : ℕ). under_at rows l t) is in
        let yes : IsPlaced rows l rank (whole + half) count (2 ^ (n - (k + 1))) end = record {
          few = few_up n k half in_bits power whole end old.few;
          is = there;
          low = up;
          halves = λ known. bit_up n k half in_bits power (under_at rows l) rank whole (old.halves known)
              (omega (arith, up, there));
        } in
        subst (λ (b : Bool). IsPlaced rows l rank (cond b to whole) (cond b count under) (2 ^ (n - (k + 1))) end)
        (sym (lt-ltb count rank up))
        (subst (λ (t : ℕ). IsPlaced rows l rank t count (2 ^ (n - (k + 1))) end) (sym is) yes)
    | inr down ↦
        let there : count ≡ under_at rows l (whole + half) = counted ∙ ap (λ (t : ℕ). under_at rows l t) is in
        let not_yet : IsPlaced rows l rank whole under (2 ^ (n - (k + 1))) end = record {
          few = few_down n k half in_bits power whole end old.few;
          is = old.is;
          low = old.low;
          halves = λ known. bit_down n k half in_bits power (under_at rows l) rank whole (old.halves known)
              (omega (arith, down, there));
        } in
        subst (λ (b : Bool). IsPlaced rows l rank (cond b to whole) (cond b count under) (2 ^ (n - (k + 1))) end)
        (sym (le-ltb count rank down)) not_yet
  ]

  pub placed_last : (rank whole under n k end : ℕ) → n ≤ k → IsPlaced rows l rank whole under (2 ^ (n - k)) end →
      IsPlaced rows l rank whole under 1 end
  placed_last rank whole under n k end past old = subst (λ (s : ℕ). IsPlaced rows l rank whole under s end)
      (ap (λ (b : ℕ). 2 ^ b) (let e : n - k ≡ 0 = omega (arith, past) in e)) old

  -- the seconds in the same way
  pub left_first : (at left : ℕ) → 1 ≤ left → IsLeft rows l at left 0 64
  left_first at left some = record {
    few = omega arith;
    halves = λ there. record {
      low = (let zero = cover_none (length rows) (whole_at rows l) (rest_at rows l) (reached_at rows l) less at
          (length rows) in omega (arith, zero, some));
      high = there;
    };
  }

  pub left_next : (at left seconds k half to count : ℕ) → k < 6 → half ≡ 2 ^ (5 - k) → to ≡ seconds + half →
      count ≡ cover_at rows l at to → IsLeft rows l at left seconds (2 ^ (6 - k)) →
      IsLeft rows l at left (cond (ltb count left) to seconds) (2 ^ (6 - (k + 1)))
  left_next at left seconds k half to count in_bits power is counted old = elim (cases_lt count left) [
    | inl up ↦
        let there : count ≡ cover_at rows l at (seconds + half) = counted ∙ ap (λ (t : ℕ). cover_at rows l at t) is in
        let yes : IsLeft rows l at left (seconds + half) (2 ^ (6 - (k + 1))) = record {
          few = few_up 6 k half in_bits power seconds 64 old.few;
          halves = λ known. bit_up 6 k half in_bits power (cover_at rows l at) left seconds (old.halves known)
              (omega (arith, up, there));
        } in
        subst (λ (b : Bool). IsLeft rows l at left (cond b to seconds) (2 ^ (6 - (k + 1)))) (sym (lt-ltb count left up))
        (subst (λ (t : ℕ). IsLeft rows l at left t (2 ^ (6 - (k + 1)))) (sym is) yes)
    | inr down ↦
        let there : count ≡ cover_at rows l at (seconds + half) = counted ∙ ap (λ (t : ℕ). cover_at rows l at t) is in
        let not_yet : IsLeft rows l at left seconds (2 ^ (6 - (k + 1))) = record {
          few = few_down 6 k half in_bits power seconds 64 old.few;
          halves = λ known. bit_down 6 k half in_bits power (cover_at rows l at) left seconds (old.halves known)
              (omega (arith, down, there));
        } in
        subst (λ (b : Bool). IsLeft rows l at left (cond b to seconds) (2 ^ (6 - (k + 1))))
        (sym (le-ltb count left down)) not_yet
  ]

  pub left_last : (at left seconds k : ℕ) → 6 ≤ k → IsLeft rows l at left seconds (2 ^ (6 - k)) →
      IsLeft rows l at left seconds 1
  left_last at left seconds k past old = subst (λ (s : ℕ). IsLeft rows l at left seconds s)
      (ap (λ (b : ℕ). 2 ^ b) (let e : 6 - k ≡ 0 = omega (arith, past) in e)) old

  -- before the first bit of the whole minutes
  pub first_placed : (rank end : ℕ) → 1 ≤ rank → ((i : ℕ) → i < length rows → reached_at rows l i ≢ 0 →
      whole_at rows l i + reached_at rows l i ≤ end) → IsFirstPlaced rows l rank end
  first_placed rank end some top = record {
    some = some;
    top = λ known. let all = under_all (length rows) (whole_at rows l) (rest_at rows l) (reached_at rows l) less end
        top in
        omega (arith, all, known);
  }

  -- after the last bit of the seconds
  pub between_here : (low rank whole under seconds end cell : ℕ) → IsPlaced rows l rank whole under 1 end →
      IsLeft rows l whole (rank - under) seconds 1 → cell ≡ 60 * (low + whole) + seconds → low + whole < 65536 →
      rank ≤ sum_to (reached_at rows l) (length rows) → IsBetween rows l low rank cell
  between_here low rank whole under seconds end cell placed left is fewer known =
      let halves = placed.halves known in
      let first = seconds_first (length rows) (whole_at rows l) (rest_at rows l) (reached_at rows l) less whole rank
      halves.low halves.high in
      let same = placed.is in
      let all = ap (λ (s : ℕ). cover_at rows l whole s) (let e : 0 + 64 ≡ 64 = omega arith in e) in
      let high : rank - under ≤ cover_at rows l whole 64 = (let h = first.high in omega (arith, h, same, all)) in
      let between : Brackets (cover_at rows l whole) (rank - under_at rows l whole) seconds 1 =
      subst (λ (u : ℕ). Brackets (cover_at rows l whole) (rank - u) seconds 1) same (left.halves high) in
      record {
        whole = whole;
        seconds = seconds;
        is = is;
        few = seconds_few (length rows) (whole_at rows l) (rest_at rows l) (reached_at rows l) less whole
            (rank - under_at rows l whole) seconds between;
        fewer = fewer;
        some = halves.low;
        between = between;
      }
