-- The elements of a reversed list, and the mirror images of rides and links.
use Rattle.std.proofs.Common.{◌≡◌, inl, inr, ℕ, ◌-◌, ◌<◌, ◌≤◌, List, map, length, get_or, slice_get, slice_index, Some}
use Rattle.std.proofs.Common.{All, Bool, cond, sym, ◌∙◌, ap, subst, arith}
use Rattle.std.specs.Prelude.{reverse}
use Rattle.std.proofs.lemmas.List.{get_or-reverse, length-reverse, reverse-reverse}
use Rattle.std.proofs.lemmas.Option.{get_or_from_slice_get, slice_get_read, slice_get_within}
use Rattle.timetable.specs.declared.trips.Event.{Event}
use Rattle.timetable.specs.declared.trips.Trip.{Trip}
use Rattle.timetable.specs.Networks.{Net}
use Rattle.timetable.specs.Journeys.{Whereabouts}
use Rattle.timetable.proofs.KnownParts.{all_at}
use Rattle.timetable.proofs.MappedLists.{map_put}
use Rattle.reversal.specs.Mirror.{IsHorizon, IsMirrored, mirrored_event, mirrored_trip}
use Rattle.reversal.proofs.Itineraries.{IsLink, RideBetween, mirrored_place}

-- an element of a list is as far from the end of the reversed list
pub reverse_put : {X : Type 0} (xs : List X) (k : ℕ) (x : X) → slice_get xs k ≡ Some x →
    slice_get (reverse xs) (length xs - 1 - k) ≡ Some x
reverse_put xs k x h =
    let l : k < length xs = slice_get_within xs k x h in
    let low : length xs - 1 - k < length xs = omega arith in
    let back : length xs - 1 - (length xs - 1 - k) ≡ k = omega arith in
    let read : get_or (reverse xs) (length xs - 1 - k) x ≡ x =
    get_or-reverse xs (length xs - 1 - k) x low
    ∙ (ap (λ j. get_or xs j x) back ∙ get_or_from_slice_get xs k x x h) in
    slice_get_read (reverse xs) (length xs) (length xs - 1 - k) x (sym (length-reverse xs)) low (sym read)

pub reverse_got : {X : Type 0} (xs : List X) (k : ℕ) (x : X) → slice_get (reverse xs) k ≡ Some x →
    slice_get xs (length xs - 1 - k) ≡ Some x
reverse_got xs k x h =
    let long : length (reverse xs) - 1 - k ≡ length xs - 1 - k = ap (λ m. m - 1 - k) (length-reverse xs) in
    subst (λ j. slice_get xs j ≡ Some x) long
    (subst (λ ys. slice_get ys (length (reverse xs) - 1 - k) ≡ Some x) (reverse-reverse xs)
    (reverse_put (reverse xs) k x h))

-- no event of the network is later than the horizon
pub event_ends : (h : ℕ) (trips : List Trip) → IsHorizon h trips → (trip k : ℕ) (t : Trip) (e : Event) →
    slice_get trips trip ≡ Some t → slice_get t.events k ≡ Some e → (e.arrive ≤ h) × (e.depart ≤ h)
event_ends h trips ends trip k t e runs at =
    all_at (λ (f : Event). (f.arrive ≤ h) × (f.depart ≤ h)) t.events k e
    (all_at (λ (u : Trip). All (λ (f : Event). (f.arrive ≤ h) × (f.depart ≤ h)) u.events) trips trip t ends runs) at

module _ (h : ℕ) (n m : Net) (is : IsMirrored h n m) where
  -- the mirror image of a ride
  pub ride_reversed : (on off : Whereabouts) → RideBetween n on off →
      RideBetween m (mirrored_place h off) (mirrored_place h on)
  ride_reversed on off r =
      let events : List Event = map (mirrored_event h) r.t.events in
      let first = map_put (mirrored_event h) r.t.events r.j r.first r.ride.from in
      let last = map_put (mirrored_event h) r.t.events r.i r.last r.ride.to in
      let within : r.i < length events = slice_get_within events r.i (mirrored_event h r.last) last in
      record {
        trip = r.trip;
        j = length events - 1 - r.i;
        i = length events - 1 - r.j;
        t = mirrored_trip h r.t;
        first = mirrored_event h r.last;
        last = mirrored_event h r.first;
        runs = rw is.trips (map_put (mirrored_trip h) n.trips r.trip r.t r.runs);
        ride = record {
          from = reverse_put events r.i (mirrored_event h r.last) last;
          to = reverse_put events r.j (mirrored_event h r.first) first;
          later = omega (arith, r.ride.later);
          may_board = r.ride.may_alight;
          may_alight = r.ride.may_board;
        };
        leaves = ap (mirrored_place h) r.arrives;
        arrives = ap (mirrored_place h) r.leaves;
      }

  -- the mirror image of a link
  pub link_reversed : (change : Bool) (a b : Whereabouts) → b.time ≤ h → IsLink n change a b →
      IsLink m change (mirrored_place h b) (mirrored_place h a)
  link_reversed change a b low (inl s) =
      let same : cond change (slice_index m.feet.changes b.stop) 0 ≡ cond change (slice_index n.feet.changes a.stop) 0 =
      ap (λ cs. cond change (slice_index cs b.stop) 0) is.feet.changes
      ∙ ap (λ p. cond change (slice_index n.feet.changes p) 0) (sym s.same) in
      inl (record { same = sym s.same; in_time = omega (arith, s.in_time, same, low) })
  link_reversed change a b low (inr w) =
      inr (record {
        seconds = w.seconds;
        foot = (is.feet.walks a.stop b.stop w.seconds).0 w.foot;
        in_time = omega (arith, w.in_time, low);
      })
