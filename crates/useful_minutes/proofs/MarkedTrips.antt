-- Marks that grow, and the trips that they cover.
use Rattle.std.proofs.Common.{◌≡◌, ℕ, ◌+◌, ◌*◌, ◌<◌, ◌≤◌, ◌⊎◌, inl, inr, List, Bool, slice_get, Some, sym, ◌∙◌, ap}
use Rattle.std.proofs.Common.{subst, arith}
use Rattle.std.proofs.lemmas.Bool.{cases_lt}
use Rattle.std.proofs.lemmas.Option.{same_Some}
use Rattle.useful_minutes.specs.Marks.{CoversTrip, Grows, IsCovered, IsLastBefore, IsNoted}

pub grows_on : {a b c : List Bool} → Grows a b → Grows b c → Grows a c
grows_on g h = record { same = h.same ∙ g.same; kept = λ m is. h.kept m (g.kept m is) }

pub noted_still : {a b : List Bool} → Grows a b → (m : ℕ) → IsNoted a m → IsNoted b m
noted_still g m noted l = g.kept m (noted (omega (arith, g.same, l)))

pub covered_still : {a b : List Bool} {bs : List (ℕ × ℕ)} {departs : ℕ → ℕ} (first k m : ℕ) → Grows a b →
    IsCovered first bs departs a k m → IsCovered first bs departs b k m
covered_still first k m g h =
    record {
      i = h.i;
      j = h.j;
      seconds = h.seconds;
      minute = h.minute;
      no_later = h.no_later;
      no_sooner = h.no_sooner;
      here = h.here;
      in_time = h.in_time;
      noted = noted_still g h.minute h.noted;
    }

pub covers_still : {a b : List Bool} {bs : List (ℕ × ℕ)} {departs : ℕ → ℕ} (first n : ℕ) → Grows a b →
    CoversTrip first bs departs a n → CoversTrip first bs departs b n
covers_still first n g h k j seconds m l here caught = covered_still first k m g (h k j seconds m l here caught)

-- `next` comes after the last minute of one of the first n boardings
pub record IsTop (first : ℕ) (bs : List (ℕ × ℕ)) (departs : ℕ → ℕ) (marks : List Bool) (n next : ℕ) : Type 0 where
  pub i : ℕ
  pub j : ℕ
  pub seconds : ℕ
  pub before : i < n
  pub here : slice_get bs i ≡ Some (j, seconds)
  pub last : IsLastBefore (first + seconds) (departs j) marks next

-- the first n boardings of a trip are covered
pub record IsCoveredTo (first : ℕ) (bs : List (ℕ × ℕ)) (departs : ℕ → ℕ) (marks : List Bool) (n next : ℕ) :
    Type 0 where
  pub top : (next ≡ 0) ⊎ IsTop first bs departs marks n next
  pub covers : CoversTrip first bs departs marks n

last_still : {a b : List Bool} (first time next : ℕ) → Grows a b → IsLastBefore first time a next →
    IsLastBefore first time b next
last_still first time next g h =
    record { minute = h.minute; is = h.is; in_time = h.in_time; noted = noted_still g h.minute h.noted }

-- two pairs that are one
same_pair : (a b : ℕ × ℕ) → Some a ≡ Some b → (a.0 ≡ b.0) × (a.1 ≡ b.1)
same_pair a b e =
    let same = same_Some a b e in
    (ap (λ (x : ℕ × ℕ). x.0) same, ap (λ (x : ℕ × ℕ). x.1) same)

module _ (first : ℕ) (bs : List (ℕ × ℕ)) (departs : ℕ → ℕ) (a b : List Bool) (n next after j seconds : ℕ)
    (g : Grows a b) (here : slice_get bs n ≡ Some (j, seconds))
    (some : (after ≡ next) ⊎ IsLastBefore (first + seconds) (departs j) b after) where
  top_next : (next ≡ 0) ⊎ IsTop first bs departs a n next → (after ≡ 0) ⊎ IsTop first bs departs b (n + 1) after
  top_next top = elim some [
    | inr last ↦ inr (record {
      i = n;
      j = j;
      seconds = seconds;
      before = omega arith;
      here = here;
      last = last;
    })
    | inl same ↦ elim top [
      | inl zero ↦ inl (same ∙ zero)
      | inr t ↦ inr (record {
        i = t.i;
        j = t.j;
        seconds = t.seconds;
        before = let l = t.before in omega (arith, l);
        here = t.here;
        last = subst (IsLastBefore (first + t.seconds) (departs t.j) b) (sym same)
            (last_still (first + t.seconds) (departs t.j) next g t.last);
      })
    ]
  ]

  -- one boarding more
  pub covered_next : ((m : ℕ) → first + seconds + 60 * m ≤ departs j → m < after) →
      IsCoveredTo first bs departs a n next → IsCoveredTo first bs departs b (n + 1) after
  covered_next below h =
      let top = top_next h.top in
      record {
        top = top;
        covers = λ k i s m l there caught. elim (cases_lt k n) [
          | inl lt ↦ covered_still first k m g (h.covers k i s m lt there caught)
          | inr ge ↦
              let e : k ≡ n = omega (arith, ge, l) in
              let same = same_pair (i, s) (j, seconds) (sym there ∙ (ap (λ (x : ℕ). slice_get bs x) e ∙ here)) in
              let place : i ≡ j = same.0 in
              let walk : s ≡ seconds = same.1 in
              let time : departs i ≡ departs j = ap departs place in
              let soon = below m (omega (arith, caught, walk, time)) in
              elim top [
                | inl zero ↦ absurd (omega (arith, zero, soon))
                | inr t ↦
                    let is = t.last.is in
                    let before = t.before in
                    record {
                      i = t.i;
                      j = t.j;
                      seconds = t.seconds;
                      minute = t.last.minute;
                      no_later = omega (arith, before, e);
                      no_sooner = omega (arith, is, soon);
                      here = t.here;
                      in_time = t.last.in_time;
                      noted = t.last.noted;
                    }
              ]
        ];
      }
