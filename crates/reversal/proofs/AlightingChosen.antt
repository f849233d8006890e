-- Where to alight: each position of a trip is matched by a best one, which is no earlier and leads to p no later.
use Rattle.std.proofs.Common.{◌≡◌, ◌⊎◌, inl, inr, ℕ, zero, suc, ◌+◌, ◌<◌, ◌≤◌, List, [], ◌∷◌, length, get_or}
use Rattle.std.proofs.Common.{slice_get, Some, true, false, IsTrue, refl, sym, ◌∙◌, ap, subst, true≢false, arith}
use Rattle.std.proofs.lemmas.Bool.{cases_eq, cases_lt}
use Rattle.std.proofs.lemmas.Option.{none-some, same_Some, slice_get-get_or, slice_get_within}
use Rattle.timetable.specs.declared.trips.Event.{Event}
use Rattle.timetable.specs.declared.trips.StopNo.{StopNo}
use Rattle.timetable.specs.declared.trips.Trip.{Trip}
use Rattle.timetable.specs.Footpaths.{FootLists, IsFoot}
use Rattle.timetable.specs.Networks.{Net}
use Rattle.reversal.specs.Deadlines.{ArrivesFrom, IsWalkAlone}

-- the fact holds, or it does not
abbrev pub IsEither : Type 0 → Type 0
IsEither P = P ⊎ (P → ⊥)

-- some element of the list, with its position, is of the kind
abbrev pub HasSome : {X : Type 0} → (ℕ → X → Type 0) → List X → Type 0
HasSome {X} P xs = (k : ℕ) × (x : X) × (slice_get xs k ≡ Some x) × P k x

not_here : {X : Type 0} (P : ℕ → X → Type 0) (x : X) (xs : List X) → (P 0 x → ⊥) →
    (HasSome (λ k y. P (suc k) y) xs → ⊥) → HasSome P (x ∷ xs) → ⊥
not_here P x xs fails none (zero, y, h, p) = fails (subst (P 0) (sym (same_Some x y h)) p)
not_here P x xs fails none (suc k, y, h, p) = none (k, y, h, p)

has_some : {X : Type 0} (P : ℕ → X → Type 0) (xs : List X) → ((k : ℕ) (x : X) → IsEither (P k x)) →
    IsEither (HasSome P xs)
has_some P [] tells = inr (λ h. none-some h.1 h.2)
has_some P (x ∷ xs) tells = elim (tells 0 x) [
  | inl p ↦ inl (0, x, refl, p)
  | inr fails ↦ elim (has_some (λ k y. P (suc k) y) xs (λ k y. tells (suc k) y)) [
    | inl h ↦ inl (suc h.0, h.1, h.2, h.3)
    | inr none ↦ inr (not_here P x xs fails none)
  ]
]

module _ (arrive time : ℕ) where
  -- a footpath to b ends by the time
  foot_by : (walks : FootLists) (a b : ℕ) → IsEither ((s : ℕ) × IsFoot walks a b s × (arrive + s ≤ time))
  foot_by walks a b = elim (cases_lt a (length walks)) [
    | inr past ↦ inr (λ f. let within = slice_get_within walks a f.1.0 f.1.2 in omega (arith, within, past))
    | inl l ↦
        let row : List (StopNo × ℕ) = get_or walks a [] in
        let at : slice_get walks a ≡ Some row = slice_get-get_or walks a [] l in
        let tells : (k : ℕ) (x : StopNo × ℕ) → IsEither ((x.0.0 ≡ b) × (arrive + x.1 ≤ time)) =
        λ k x. elim (cases_eq x.0.0 b) [
          | inl e ↦ elim (cases_lt time (arrive + x.1)) [
            | inl late ↦ inr (λ p. omega (arith, p.1, late))
            | inr low ↦ inl (e, low)
          ]
          | inr ne ↦ inr (λ p. ne p.0)
        ] in
        elim (has_some (λ k x. (x.0.0 ≡ b) × (arrive + x.1 ≤ time)) row tells) [
          | inl h ↦ inl (
            h.1.1,
            (row, h.0, at, h.2 ∙ ap (λ (p : ℕ). Some (record { 0 = p }, h.1.1)) h.3.0),
            h.3.1,
          )
          | inr none ↦ inr (λ f.
              let same : f.1.0 ≡ row = same_Some f.1.0 row (sym f.1.2 ∙ at) in
              none (
                f.1.1,
                (record { 0 = b }, f.0),
                subst (λ r. slice_get r f.1.1 ≡ Some (record { 0 = b }, f.0)) same f.1.3,
                (refl, f.2),
              ))
        ]
  ]

  walked_by : (n : Net) (a b : ℕ) → IsEither ((s : ℕ) × IsWalkAlone n.feet.walks a b s × (arrive + s ≤ time))
  walked_by n a b = elim (foot_by n.feet.walks a b) [
    | inl f ↦ inl (f.0, inr f.1, f.2)
    | inr fails ↦ elim (cases_eq a b) [
      | inl e ↦ elim (cases_lt time arrive) [
        | inl late ↦ inr (λ w. elim w.1 [ inl z ↦ omega (arith, z.1, w.2, late) | inr f ↦ fails (w.0, f, w.2) ])
        | inr low ↦ inl (0, inl (e, refl), omega (arith, low))
      ]
      | inr ne ↦ inr (λ w. elim w.1 [ inl z ↦ ne z.0 | inr f ↦ fails (w.0, f, w.2) ])
    ]
  ]

-- a traveller who alights at the event is at p by the time
abbrev ArrivesBy : Net → ℕ → ℕ → Event → Type 0
ArrivesBy n p time e = IsTrue e.alight × ((s : ℕ) × IsWalkAlone n.feet.walks e.stop.0 p s × (e.arrive + s ≤ time))

arrives_by : (n : Net) (p time : ℕ) (e : Event) → IsEither (ArrivesBy n p time e)
arrives_by n p time e =
    let walks = walked_by e.arrive time n e.stop.0 p in
    let W : Type 0 = (s : ℕ) × IsWalkAlone n.feet.walks e.stop.0 p s × (e.arrive + s ≤ time) in
    elim e.alight as (λ b. IsEither (IsTrue b × W)) [
      | true ↦ elim walks [ inl w ↦ inl (refl, w) | inr fails ↦ inr (λ b. fails b.1) ]
      | false ↦ inr (λ b. true≢false (sym b.0))
    ]

-- a best position to alight at, no earlier than position i, which leads to p by the time
pub record IsLastStop (n : Net) (t : Trip) (p i time : ℕ) : Type 0 where
  pub x : ℕ
  pub end : ℕ
  pub later : i ≤ x
  pub low : end ≤ time
  pub arrives : ArrivesFrom n.feet.walks t x p end
  pub last : (y after : ℕ) → x < y → ArrivesFrom n.feet.walks t y p after → end < after

pub last_stop : (n : Net) (t : Trip) (p d i time : ℕ) → length t.events ≤ i + d → ArrivesFrom n.feet.walks t i p time →
    IsLastStop n t p i time
last_stop n t p zero i time past b =
    absurd (let within = slice_get_within t.events i b.off b.event in omega (arith, within, past))
last_stop n t p (suc d) i time past b =
    let tells : (k : ℕ) (e : Event) → IsEither ((i < k) × ArrivesBy n p time e) = λ k e. elim (cases_lt i k) [
      | inl l ↦ elim (arrives_by n p time e) [ inl y ↦ inl (l, y) | inr fails ↦ inr (λ z. fails z.1) ]
      | inr g ↦ inr (λ z. omega (arith, z.0, g))
    ] in
    elim (has_some (λ k e. (i < k) × ArrivesBy n p time e) t.events tells) [
      | inl h ↦
          let w = h.3.1.1 in
          let next : ArrivesFrom n.feet.walks t h.0 p (h.1.arrive + w.0) = record {
            off = h.1;
            event = h.2;
            arrives = record { may_alight = h.3.1.0; seconds = w.0; walk = w.1; at = refl };
          } in
          let was = last_stop n t p d h.0 (h.1.arrive + w.0) (omega (arith, past, h.3.0)) next in
          record {
            x = was.x;
            end = was.end;
            later = omega (arith, was.later, h.3.0);
            low = omega (arith, was.low, w.2);
            arrives = was.arrives;
            last = was.last;
          }
      | inr none ↦ record {
        x = i;
        end = time;
        later = omega arith;
        low = omega arith;
        arrives = b;
        last = λ y after l c. elim (cases_lt time after) [
          | inl lt ↦ lt
          | inr ge ↦
              let by : ArrivesBy n p time c.off =
              (c.arrives.may_alight, (c.arrives.seconds, c.arrives.walk, omega (arith, c.arrives.at, ge))) in
              absurd (none (y, c.off, c.event, (l, by)))
        ];
      }
    ]
