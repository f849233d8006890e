-- How one pass over a trip finds its deadlines.
use Rattle.std.proofs.Common.{◌≡◌, ◌≢◌, ◌⊎◌, inl, inr, ℕ, suc, ◌+◌}
use Rattle.std.proofs.Common.{◌<◌, ◌≤◌, List, [], ◌∷◌, min, Contains, IsTrue}
use Rattle.std.proofs.Common.{Some, slice_get, ◌↔◌, refl, sym, ◌∙◌, ap, subst, arith}
use Rattle.std.proofs.lemmas.Bool.{cases_eq, cases_lt}
use Rattle.std.proofs.lemmas.Option.{same_Some}
use Rattle.timetable.specs.declared.least.TheConstants.{NEVER}
use Rattle.timetable.specs.declared.limits.TheConstants.{END_OF_AXIS}
use Rattle.timetable.specs.declared.trips.Event.{Event}
use Rattle.timetable.specs.declared.trips.StopNo.{StopNo}
use Rattle.timetable.specs.declared.trips.Trip.{Trip}
use Rattle.timetable.specs.Footpaths.{AreFeet, FeetData, FootLists, IsFoot}
use Rattle.timetable.specs.Least.{IsLeastOrNever}
use Rattle.timetable.proofs.KnownParts.{foot_in_range, foot_short}
use Rattle.reversal.specs.Deadlines.{ArrivesAt, ArrivesFrom, IsBestAlighting, IsWalkAlone}
use Rattle.reversal.proofs.MirroredFeet.{rising_row}
use Rattle.reversal.proofs.ReversedFootpaths.{Has, Rising, has_cases, has_none, rising_has}

-- at most one footpath of a row leads to each stop
rising_one : (low : ℕ) (row : List (StopNo × ℕ)) (x y : StopNo × ℕ) → Rising low row → Has row x → Has row y →
    x.0.0 ≡ y.0.0 → x ≡ y
rising_one low [] x y r h g e = absurd (has_none x h)
rising_one low (z ∷ row) x y r h g e = elim (has_cases z row x h) [
  | inl a ↦ elim (has_cases z row y g) [
    | inl b ↦ sym a ∙ b
    | inr b ↦
        let above = rising_has (suc z.0.0) row y r.1 b in
        absurd (omega (arith, above, e, ap (λ (w : StopNo × ℕ). w.0.0) a))
  ]
  | inr a ↦ elim (has_cases z row y g) [
    | inl b ↦
        let above = rising_has (suc z.0.0) row x r.1 a in
        absurd (omega (arith, above, e, ap (λ (w : StopNo × ℕ). w.0.0) b))
    | inr b ↦ rising_one (suc z.0.0) row x y r.1 a b e
  ]
]

-- the arrivals from position i on were visited: `times` has gained those of the deadlines among them, and `least` is
-- the least of all
pub record AreFound (walks : FootLists) (t : Trip) (p first i least : ℕ) (before times : List ℕ) : Type 0 where
  pub exact : (time : ℕ) → Contains times time ↔ (Contains before time
      ⊎ ((x : ℕ) × (i ≤ x) × (0 < x) × IsBestAlighting walks t x p time × (first ≤ time)))
  pub fits : least ≤ NEVER
  pub low : (x late : ℕ) → i ≤ x → ArrivesFrom walks t x p late → least ≤ late
  pub met : (least ≡ NEVER) ⊎ ((x : ℕ) × (i ≤ x) × ArrivesFrom walks t x p least)

module _ (feet : FeetData) (ok : AreFeet feet) where
  one_foot : (a b s t : ℕ) → IsFoot feet.walks a b s → IsFoot feet.walks a b t → s ≡ t
  one_foot a b s t f g =
      let same : g.0 ≡ f.0 = same_Some g.0 f.0 (sym g.2 ∙ f.2) in
      let other : Has f.0 (record { 0 = b }, t) =
      (g.1, subst (λ r. slice_get r g.1 ≡ Some (record { 0 = b }, t)) same g.3) in
      ap (λ (w : StopNo × ℕ). w.1) (rising_one 0 f.0 (record { 0 = b }, s) (record { 0 = b }, t)
      (rising_row feet ok a f.0 f.2) (f.1, f.3) other refl)

  -- the seconds of a walk alone to another stop
  pub walk_found : (a b seconds : ℕ) → a ≢ b → IsFoot feet.walks a b seconds →
      IsLeastOrNever (IsWalkAlone feet.walks a b) seconds
  walk_found a b seconds away foot =
      record {
        holds = λ some. inr foot;
        least = λ m w. elim w [
          | inl z ↦ absurd (away z.0)
          | inr f ↦ let same = one_foot a b seconds m foot f in omega (arith, same)
        ];
        none = λ never m w. let short = foot_short feet ok a b seconds foot in omega (arith, short, never);
      }

  one_arrival : (e : Event) (p s t : ℕ) → ArrivesAt feet.walks e p s → ArrivesAt feet.walks e p t → s ≡ t
  one_arrival e p s t a b = elim a.walk [
    | inl z ↦ elim b.walk [
      | inl y ↦ omega (arith, a.at, b.at, z.1, y.1)
      | inr f ↦ absurd ((foot_in_range feet ok e.stop.0 p b.seconds f).1 (sym z.0))
    ]
    | inr f ↦ elim b.walk [
      | inl y ↦ absurd ((foot_in_range feet ok e.stop.0 p a.seconds f).1 (sym y.0))
      | inr g ↦ let same = one_foot e.stop.0 p a.seconds b.seconds f g in omega (arith, a.at, b.at, same)
    ]
  ]

  -- the arrival at p after the event
  pub arrival_found : (e : Event) (p seconds : ℕ) → IsTrue e.alight → e.arrive < END_OF_AXIS → seconds ≢ NEVER →
      IsLeastOrNever (IsWalkAlone feet.walks e.stop.0 p) seconds →
      IsLeastOrNever (ArrivesAt feet.walks e p) (e.arrive + seconds)
  arrival_found e p seconds may early some one =
      record {
        holds = λ any. record { may_alight = may; seconds = seconds; walk = one.holds some; at = refl };
        least = λ m b. let low = one.least b.seconds b.walk in omega (arith, low, b.at);
        none = λ never m b. elim (one.holds some) [
          | inl z ↦ omega (arith, z.1, never, early)
          | inr f ↦ let short = foot_short feet ok e.stop.0 p seconds f in omega (arith, short, never, early)
        ];
      }

  module _ (t : Trip) (p first i j least arrival : ℕ) (before times new : List ℕ) (e : Event) (next : i ≡ j + 1)
      (later : 0 < j) (at : slice_get t.events j ≡ Some e) (are : AreFound feet.walks t p first i least before times)
      (one : IsLeastOrNever (ArrivesAt feet.walks e p) arrival) (fits : arrival ≤ NEVER)
      (added : (time : ℕ) → Contains new time ↔ (Contains times time
      ⊎ ((time ≡ arrival) × (arrival < least) × (first ≤ arrival)))) where
    -- an arrival from position j is one after the event there
    from_here : (x time : ℕ) → x ≡ j → ArrivesFrom feet.walks t x p time → ArrivesAt feet.walks e p time
    from_here x time same a =
        let is : a.off ≡ e =
        same_Some a.off e (sym a.event ∙ (ap (λ k. slice_get t.events k) same ∙ at)) in
        subst (λ (f : Event). ArrivesAt feet.walks f p time) is a.arrives

    here : arrival ≢ NEVER → ArrivesFrom feet.walks t j p arrival
    here some = record { off = e; event = at; arrives = one.holds some }

    below : arrival ≢ NEVER → arrival < NEVER
    below some = elim (cases_lt arrival NEVER) [
      | inl l ↦ l
      | inr g ↦ absurd (some (omega (arith, g, fits)))
    ]

    forth : (time : ℕ) → Contains new time → Contains before time
        ⊎ ((x : ℕ) × (j ≤ x) × (0 < x) × IsBestAlighting feet.walks t x p time × (first ≤ time))
    forth time h = elim ((added time).0 h) [
      | inl old ↦ elim ((are.exact time).0 old) [
        | inl b ↦ inl b
        | inr b ↦ inr (b.0, omega (arith, b.1, next), b.2, b.3, b.4)
      ]
      | inr n ↦
          let some : arrival ≢ NEVER = λ never. omega (arith, never, n.1, are.fits) in
          inr (
            j,
            omega arith,
            later,
            record {
              arrives = subst (λ (s : ℕ). ArrivesFrom feet.walks t j p s) (sym n.0) (here some);
              later = λ x late l a.
                  let low = are.low x late (omega (arith, l, next)) a in
                  omega (arith, low, n.0, n.1);
            },
            omega (arith, n.0, n.2),
          )
    ]

    back : (time : ℕ) → Contains before time
        ⊎ ((x : ℕ) × (j ≤ x) × (0 < x) × IsBestAlighting feet.walks t x p time × (first ≤ time)) → Contains new time
    back time (inl b) = (added time).1 (inl ((are.exact time).1 (inl b)))
    back time (inr b) = elim (cases_eq b.0 j) [
      | inr other ↦ (added time).1 (inl ((are.exact time).1
          (inr (b.0, omega (arith, b.1, other, next), b.2, b.3, b.4))))
      | inl same ↦
          let a : ArrivesAt feet.walks e p time = from_here b.0 time same b.3.arrives in
          let some : arrival ≢ NEVER = λ never. one.none never time a in
          let is : time ≡ arrival = one_arrival e p time arrival a (one.holds some) in
          let early : time < least = elim are.met [
            | inl never ↦ let low = below some in omega (arith, never, low, is)
            | inr m ↦ b.3.later m.0 least (omega (arith, m.1, same, next)) m.2
          ] in
          (added time).1 (inr (is, omega (arith, is, early), omega (arith, is, b.4)))
    ]

    -- one event more
    pub found_more : AreFound feet.walks t p first j (min arrival least) before new
    found_more =
        record {
          exact = λ time. (forth time, back time);
          fits = omega (arith, are.fits);
          low = λ x late le a. elim (cases_eq x j) [
            | inl same ↦ let low = one.least late (from_here x late same a) in omega (arith, low)
            | inr other ↦ let low = are.low x late (omega (arith, le, other, next)) a in omega (arith, low)
          ];
          met = elim (cases_lt arrival least) [
            | inl l ↦
                let is : arrival ≡ min arrival least = omega (arith, l) in
                let some : arrival ≢ NEVER = λ never. omega (arith, never, l, are.fits) in
                inr (j, omega arith, subst (λ (m : ℕ). ArrivesFrom feet.walks t j p m) is (here some))
            | inr g ↦
                let is : least ≡ min arrival least = omega (arith, g) in
                elim are.met [
                  | inl never ↦ inl (sym is ∙ never)
                  | inr m ↦ inr (
                    m.0,
                    omega (arith, m.1, next),
                    subst (λ (v : ℕ). ArrivesFrom feet.walks t m.0 p v) is m.2,
                  )
                ]
          ];
        }
