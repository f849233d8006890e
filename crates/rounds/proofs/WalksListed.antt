-- The walks alone from an origin: the one to the origin itself, and then the footpaths.
use Rattle.std.proofs.Common.{◌≡◌, ◌<◌, ◌∙◌, ℕ, zero, suc, List, ◌∷◌, Some, length, slice_get, refl, sym, ap, subst, arith}
use Rattle.std.proofs.Common.{inl, inr}
use Rattle.std.proofs.lemmas.Option.{get_or_from_slice_get, same_Some, slice_get-get_or, slice_get_within}
use Rattle.timetable.specs.declared.trips.StopNo.{StopNo}
use Rattle.timetable.specs.Networks.{Net}
use Rattle.useful_minutes.specs.Boarding.{IsNear}
use Rattle.rounds.specs.Labels.{AreWalksFrom, no_walk, walk_seconds, walk_stop}

module _ (n : Net) (origin : ℕ) (row : List (StopNo × ℕ)) (leaving : slice_get n.feet.walks origin ≡ Some row) where
  abbrev listed : List (StopNo × ℕ)
  listed = (record { 0 = origin }, 0) ∷ row

  is_near : (i : ℕ) → i < length listed → IsNear n origin (walk_stop listed i) (walk_seconds listed i)
  is_near zero less = inl (refl, refl)
  is_near (suc k) less = inr (row, k, leaving, slice_get-get_or row k no_walk (omega (arith, less)))

  is_listed : (p seconds : ℕ) → IsNear n origin p seconds →
      (i : ℕ) × (i < length listed) × (walk_stop listed i ≡ p) × (walk_seconds listed i ≡ seconds)
  is_listed p seconds near = elim near [
    | inl stays ↦ (0, omega arith, sym stays.0, sym stays.1)
    | inr foot ↦
        let same = same_Some foot.0 row (sym foot.2 ∙ leaving) in
        let here : slice_get row foot.1 ≡ Some (record { 0 = p }, seconds) = rw same at foot.3 in
        let within = slice_get_within row foot.1 (record { 0 = p }, seconds) here in
        let is = get_or_from_slice_get row foot.1 (record { 0 = p }, seconds) no_walk here in (
          suc foot.1,
          omega (arith, within),
          ap (λ (walk : StopNo × ℕ). walk.0.0) is,
          ap (λ (walk : StopNo × ℕ). walk.1) is,
        )
  ]

  pub walks_listed : (walks : List (StopNo × ℕ)) → walks ≡ listed → AreWalksFrom n origin walks
  walks_listed walks same =
      subst (λ (xs : List (StopNo × ℕ)). AreWalksFrom n origin xs) (sym same)
      (record { sound = is_near; complete = is_listed })
