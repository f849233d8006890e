-- The journeys of the mirrored network are those of the network, the other way.
use Rattle.std.proofs.Common.{◌≡◌, ℕ, ◌-◌, ◌≤◌, false, refl, subst, arith}
use Rattle.timetable.specs.Networks.{Net}
use Rattle.timetable.specs.Journeys.{Journey, Whereabouts, rides}
use Rattle.reversal.specs.Mirror.{IsHorizon, IsMirrored}
use Rattle.reversal.proofs.Itineraries.{Itinerary, mirrored_place}
use Rattle.reversal.specs.Laws.{IsReachedBy, JourneysReverse}
use Rattle.reversal.proofs.ItinerariesReversed.{itinerary_reversed}
use Rattle.reversal.proofs.JourneysAsItineraries.{LegsInTime, came, itinerary_of, waits}
use Rattle.reversal.proofs.MirroredTwice.{ends_too, mirrored_back}

-- one direction of the law
reversed : (h : ℕ) (n m : Net) (origin start k p deadline : ℕ) → IsHorizon h n.trips → IsMirrored h n m →
    deadline ≤ h → IsReachedBy n origin start k p deadline → IsReachedBy m p (h - deadline) k origin (h - start)
reversed h n m origin start k p deadline ends is low r =
    let from : Whereabouts = record { stop = origin; time = start } in
    let to : Whereabouts = record { stop = p; time = deadline } in
    let end : Whereabouts = record { stop = p; time = r.time } in
    let one : Itinerary n false from (rides r.reached.legs) false to =
    itinerary_of n from r.reached.legs end to false r.reached.journey (waits n r.reached.legs end to refl r.in_time) in
    let other : Itinerary m false (mirrored_place h to) (rides r.reached.legs) false (mirrored_place h from) =
    itinerary_reversed h n m ends is (rides r.reached.legs) false false from to low one in
    let was : LegsInTime m (mirrored_place h to) (rides r.reached.legs) false (mirrored_place h from) =
    came m (mirrored_place h to) (rides r.reached.legs) false (mirrored_place h from) other in
    record {
      time = was.a.time;
      reached = record {
        legs = was.legs;
        journey = subst (λ (s : ℕ). Journey m (mirrored_place h to) was.legs (record { stop = s; time = was.a.time }))
            was.here was.journey;
        few = omega (arith, was.count, r.reached.few);
      };
      in_time = was.ready;
    }

pub journeys_reverse : JourneysReverse
journeys_reverse h n m origin start k p deadline ends is early low =
    let starts : h - (h - start) ≡ start = omega (arith, early) in
    let stops : h - (h - deadline) ≡ deadline = omega (arith, low) in (
      reversed h n m origin start k p deadline ends is low,
      λ r. subst (λ (s : ℕ). IsReachedBy n origin s k p deadline) starts
          (subst (λ (s : ℕ). IsReachedBy n origin (h - (h - start)) k p s) stops
          (reversed h m n p (h - deadline) k origin (h - start) (ends_too h n m is) (mirrored_back h n m ends is)
          (omega arith) r)),
    )
