-- The itineraries of the mirrored network are those of the network, the other way.
use Rattle.std.proofs.Common.{◌≡◌, ℕ, zero, suc, ◌≤◌, Bool, true, false, refl, sym, ap, subst, arith}
use Rattle.std.specs.Prelude.{◌&&◌}
use Rattle.timetable.specs.Networks.{Net}
use Rattle.timetable.specs.Journeys.{Whereabouts}
use Rattle.reversal.specs.Mirror.{IsHorizon, IsMirrored}
use Rattle.reversal.proofs.Itineraries.{IsLink, Itinerary, RideBetween, mirrored_place}
use Rattle.reversal.proofs.MirroredParts.{event_ends, link_reversed, ride_reversed}

and_true : (b : Bool) → (b && true) ≡ b
and_true true = refl
and_true false = refl

and_flip : (b c : Bool) → (b && c) ≡ (c && b)
and_flip true true = refl
and_flip true false = refl
and_flip false true = refl
and_flip false false = refl

-- an itinerary with one ride more, before all others
ride_before : (n : Net) (k : ℕ) (before after : Bool) (a on off b : Whereabouts) → IsLink n before a on →
    RideBetween n on off → Itinerary n true off k after b → Itinerary n before a (suc k) after b
ride_before n zero before after a on off b link ride rest =
    (on, off, subst (λ c. IsLink n c a on) (sym (and_true before)) link, ride, rest)
ride_before n (suc k) before after a on off b link ride (x, y, rest, last, then) =
    (x, y, ride_before n k before true a on off x link ride rest, last, then)

module _ (h : ℕ) (n m : Net) (ends : IsHorizon h n.trips) (is : IsMirrored h n m) where
  -- each ride departs no later than the horizon
  leaves_in_time : (on off : Whereabouts) → RideBetween n on off → on.time ≤ h
  leaves_in_time on off r =
      let low = event_ends h n.trips ends r.trip r.j r.t r.first r.runs r.ride.from in
      let at = ap (λ (v : Whereabouts). v.time) r.leaves in
      omega (arith, low.1, at)

  pub itinerary_reversed : (k : ℕ) (before after : Bool) (a b : Whereabouts) → b.time ≤ h →
      Itinerary n before a k after b → Itinerary m after (mirrored_place h b) k before (mirrored_place h a)
  itinerary_reversed zero before after a b low link =
      subst (λ c. IsLink m c (mirrored_place h b) (mirrored_place h a)) (and_flip before after)
      (link_reversed h n m is (before && after) a b low link)
  itinerary_reversed (suc k) before after a b low (on, off, rest, ride, link) =
      ride_before m k after before (mirrored_place h b) (mirrored_place h off) (mirrored_place h on)
      (mirrored_place h a)
      (link_reversed h n m is after off b low link) (ride_reversed h n m is on off ride)
      (itinerary_reversed k before true a on (leaves_in_time on off ride) rest)
