-- Walks from the origin, one after another.
use Rattle.std.proofs.Common.{◌≡◌, ◌≢◌, ℕ, ◌+◌, ◌<◌, ◌≤◌, ◌⊎◌, inl, inr, List, length, min, slice_get, Some, sym, ◌∙◌}
use Rattle.std.proofs.Common.{ap, subst, arith}
use Rattle.std.proofs.lemmas.Bool.{cases_lt, cases_eq}
use Rattle.std.proofs.lemmas.Option.{same_Some, slice_get_within}
use Rattle.timetable.specs.declared.least.TheConstants.{NEVER}
use Rattle.timetable.specs.declared.trips.StopNo.{StopNo}
use Rattle.timetable.specs.Networks.{Net}
use Rattle.useful_minutes.specs.Boarding.{IsNear}
use Rattle.useful_minutes.specs.Waits.{IsWalked}

-- the label as lowered to staying at the origin, and to the walks before a position of the list
pub record IsWalkedBefore (n : Net) (origin : ℕ) (chunk : List (StopNo × ℕ)) (k p old new : ℕ) : Type 0 where
  pub falls : new ≤ old
  pub stays : p ≡ origin → new ≤ 0
  pub walks : (i seconds : ℕ) → i < k → slice_get chunk i ≡ Some (record { 0 = p }, seconds) → new ≤ seconds
  pub some : (new ≡ old) ⊎ IsNear n origin p new

-- one walk more
pub walked_more : (n : Net) (origin : ℕ) (chunk : List (StopNo × ℕ)) → slice_get n.feet.walks origin ≡ Some chunk →
    (k p old mid new : ℕ) (walk : StopNo × ℕ) → slice_get chunk k ≡ Some walk →
    (p ≡ walk.0.0 → new ≡ min mid walk.1) → (p ≢ walk.0.0 → new ≡ mid) →
    IsWalkedBefore n origin chunk k p old mid → IsWalkedBefore n origin chunk (k + 1) p old new
walked_more n origin chunk at k p old mid new walk is here other h = elim (cases_eq p walk.0.0) [
  | inl e ↦
      let low = here e in
      let near : IsNear n origin p walk.1 =
      inr (chunk, k, at, is ∙ ap (λ (q : ℕ). Some (record { 0 = q }, walk.1)) (sym e)) in
      record {
        falls = let f = h.falls in omega (arith, low, f);
        stays = λ s. let f = h.stays s in omega (arith, low, f);
        walks = λ i seconds l there. elim (cases_lt i k) [
          | inl lt ↦ let f = h.walks i seconds lt there in omega (arith, low, f)
          | inr ge ↦
              let same : i ≡ k = omega (arith, ge, l) in
              let one : (record { 0 = p }, seconds) ≡ walk =
              same_Some (record { 0 = p }, seconds) walk (sym there ∙ (ap (λ (x : ℕ). slice_get chunk x) same ∙ is)) in
              let s : seconds ≡ walk.1 = ap (λ (x : StopNo × ℕ). x.1) one in
              omega (arith, low, s)
        ];
        some = elim (cases_lt walk.1 mid) [
          | inl lt ↦ inr (subst (IsNear n origin p) (omega (arith, low, lt)) near)
          | inr ge ↦
              let same : new ≡ mid = omega (arith, low, ge) in
              elim h.some [ inl o ↦ inl (same ∙ o) | inr w ↦ inr (subst (IsNear n origin p) (sym same) w) ]
        ];
      }
  | inr ne ↦
      let same = other ne in
      record {
        falls = let f = h.falls in omega (arith, same, f);
        stays = λ s. let f = h.stays s in omega (arith, same, f);
        walks = λ i seconds l there. elim (cases_lt i k) [
          | inl lt ↦ let f = h.walks i seconds lt there in omega (arith, same, f)
          | inr ge ↦
              let e : i ≡ k = omega (arith, ge, l) in
              let one : (record { 0 = p }, seconds) ≡ walk =
              same_Some (record { 0 = p }, seconds) walk (sym there ∙ (ap (λ (x : ℕ). slice_get chunk x) e ∙ is)) in
              absurd (ne (ap (λ (x : StopNo × ℕ). x.0.0) one))
        ];
        some = elim h.some [ inl o ↦ inl (same ∙ o) | inr w ↦ inr (subst (IsNear n origin p) (sym same) w) ];
      }
]

-- all of them
pub walked_all : (n : Net) (origin : ℕ) (chunk : List (StopNo × ℕ)) → slice_get n.feet.walks origin ≡ Some chunk →
    (k p old new : ℕ) → length chunk ≤ k → IsWalkedBefore n origin chunk k p old new → IsWalked n origin p old new
walked_all n origin chunk at k p old new all h =
    record {
      falls = h.falls;
      walks = λ seconds near. elim near [
        | inl stays ↦ let f = h.stays stays.0 in omega (arith, f)
        | inr foot ↦
            let same = same_Some foot.0 chunk (sym foot.2 ∙ at) in
            let here : slice_get chunk foot.1 ≡ Some (record { 0 = p }, seconds) = rw same at foot.3 in
            let within = slice_get_within chunk foot.1 (record { 0 = p }, seconds) here in
            h.walks foot.1 seconds (omega (arith, within, all)) here
      ];
      some = h.some;
    }

-- before the first walk the origin alone has a label
pub walked_not_yet : (n : Net) (origin : ℕ) (chunk : List (StopNo × ℕ)) (p x : ℕ) → (p ≡ origin → x ≡ 0) →
    (p ≢ origin → x ≡ NEVER) → IsWalkedBefore n origin chunk 0 p NEVER x
walked_not_yet n origin chunk p x stays never = elim (cases_eq p origin) [
  | inl e ↦
      let zero = stays e in
      record {
        falls = omega (arith, zero);
        stays = λ s. omega (arith, zero);
        walks = λ i seconds l there. absurd (omega (arith, l));
        some = inr (inl (e, zero));
      }
  | inr ne ↦
      let same = never ne in
      record {
        falls = omega (arith, same);
        stays = λ s. absurd (ne s);
        walks = λ i seconds l there. absurd (omega (arith, l));
        some = inl same;
      }
]
