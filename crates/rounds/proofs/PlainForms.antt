-- Plain forms agree with the program's: durations minute by minute, and rounds trip by trip.
use Rattle.std.proofs.Common.{◌≡◌, ℕ, zero, suc, ◌<◌, ◌⊎◌, inl, inr, List, [], ◌∷◌, length, slice_index, slice_get}
use Rattle.std.proofs.Common.{Some, refl, sym, ◌∙◌, subst, arith}
use Rattle.std.proofs.lemmas.List.{ext_get_or}
use Rattle.std.proofs.lemmas.Option.{same_Some, slice_get_within}
use Rattle.timetable.specs.declared.trips.Trip.{Trip}
use Rattle.timetable.specs.Journeys.{IsDuration}
use Rattle.timetable.specs.RoundSteps.{Lowers, Carries, CarriesAny}
use Rattle.timetable.proofs.LeastUnique.{least_unique}
use Rattle.timetable.proofs.LowersCompose.{lowers_alike, lowers_none, lowers_both}
use Rattle.rounds.specs.Laws.{AreCarriedInTurn, DurationsAreThoseOfDepartures, RoundsCarryTrips}
use Rattle.rounds.specs.Table.{at, known_of}
use Rattle.rounds.specs.Window.{departure}
use Rattle.rounds.proofs.DurationsUnique.{option_unique}
use Rattle.rounds.proofs.FilledTable.{known_least}

pub of_departures : DurationsAreThoseOfDepartures
of_departures n origin w k t m p labels are least below there =
    let P : ℕ → Type 0 = IsDuration n origin (departure w m) k p in
    option_unique P (at t p m) (known_of (slice_index labels p))
    (are.each p m (omega (arith, there, are.stops)) (omega (arith, below, are.minutes)))
    (known_least P (slice_index labels p) (least.label p there))

-- labels are lowered to one list
lowers_unique : {C : ℕ → ℕ → Type 0} (old a b : List ℕ) → Lowers C old a → Lowers C old b → a ≡ b
lowers_unique old a b h k =
    ext_get_or 0 a b (h.same_length ∙ sym k.same_length) (λ p l.
    let l' : p < length old = omega (arith, l, h.same_length) in
    least_unique (slice_index a p) (slice_index b p) (h.label p l') (k.label p l'))

-- one of the trips is the first, or one of the others
first_or_other : (ready : List ℕ) (t : Trip) (trips : List Trip) (p end i : ℕ) (u : Trip) →
    slice_get (t ∷ trips) i ≡ Some u → Carries ready u p end → Carries ready t p end ⊎ CarriesAny ready trips p end
first_or_other ready t trips p end zero u runs c =
    inl (subst (λ (v : Trip). Carries ready v p end) (sym (same_Some t u runs)) c)
first_or_other ready t trips p end (suc i) u runs c = inr (record { trip = i; t = u; runs = runs; carries = c })

-- trips that are carried in turn lower labels as far as any of them offers
carried_any : (ready : List ℕ) (trips : List Trip) (old new : List ℕ) → AreCarriedInTurn ready trips old new →
    Lowers (CarriesAny ready trips) old new
carried_any ready [] old new e =
    subst (λ (x : List ℕ). Lowers (CarriesAny ready []) old x) (sym e) (lowers_none old (λ p end c.
    let within = slice_get_within [] c.trip c.t c.runs in
    omega (arith, within)))
carried_any ready (t ∷ trips) old new h =
    lowers_alike
    (λ p end o. elim o [
      | inl c ↦ record { trip = 0; t = t; runs = refl; carries = c }
      | inr c ↦ record { trip = suc c.trip; t = c.t; runs = c.runs; carries = c.carries }
    ])
    (λ p end c. first_or_other ready t trips p end c.trip c.t c.runs c.carries)
    (lowers_both h.1 (carried_any ready trips h.0 new h.2))

pub carry_trips : RoundsCarryTrips
carry_trips ready trips old scanned carried h turns =
    lowers_unique old scanned carried h (carried_any ready trips old carried turns)
