-- The first rides on trips of a line, and the boardings of the line.
use Rattle.std.proofs.Common.{◌≡◌, ◌≢◌, ℕ, zero, suc, ◌+◌, ◌-◌, ◌*◌, ◌<◌, ◌≤◌, ◌⊎◌, ◌++◌, ◌∷◌, [], inl, inr, false}
use Rattle.std.proofs.Common.{List, Bool, All}
use Rattle.std.proofs.Common.{IsTrue, length, slice_get, slice_index, get_or, Some, refl, sym, ◌∙◌, ap, subst, arith}
use Rattle.std.proofs.lemmas.Bool.{cases_lt, false≢true}
use Rattle.std.proofs.lemmas.Option.{same_Some, slice_get_within, slice_get-get_or, get_or_from_slice_get}
use Rattle.timetable.specs.declared.least.TheConstants.{NEVER}
use Rattle.timetable.specs.declared.limits.TheConstants.{MOST_FOOT_SECONDS}
use Rattle.timetable.specs.declared.views.Call.{Call}
use Rattle.timetable.specs.declared.views.CallTimes.{CallTimes}
use Rattle.timetable.specs.Lines.{IsLine, Line, LineTable, AreLinesOf}
use Rattle.timetable.specs.declared.trips.Event.{Event}
use Rattle.timetable.specs.declared.trips.Trip.{Trip}
use Rattle.timetable.specs.FlatLists.{IsIn}
use Rattle.timetable.specs.LineViews.{IsAt, IsViewOf, departures_in, rows_of_line}
use Rattle.timetable.specs.Networks.{Net, IsNet}
use Rattle.timetable.proofs.KnownParts.{all_at, event_stays, event_stop, foot_in_range, foot_short}
use Rattle.timetable.proofs.ListsAddedTo.{get_added, get_cases, get_kept, is_there}
use Rattle.useful_minutes.specs.Boarding.{Catches, FirstRide, IsAsSoonOnFoot, IsNear}
use Rattle.useful_minutes.specs.Marks.{AreBoardings, AreInner, AreWalks, CoversLine, CoversTrip, Grows, IsBoarding}
use Rattle.useful_minutes.specs.Marks.{IsUseful, StaysNear}
use Rattle.useful_minutes.proofs.LineEvents.{events_here, rises}
use Rattle.useful_minutes.proofs.MarkedTrips.{noted_still}

-- the same position has the same walk
same_walk : (calls : List Call) (walks : List ℕ) (j s t : ℕ) → IsBoarding calls walks j s →
    IsBoarding calls walks j t → s ≡ t
same_walk calls walks j s t a b =
    let same : a.call ≡ b.call = same_Some a.call b.call (sym a.here ∙ b.here) in
    sym a.walk ∙ (ap (λ (c : Call). slice_index walks c.stop.0) same ∙ b.walk)

-- one position more from which a trip leads away, and one from which none does
pub boardings_more : (calls : List Call) (walks inner : List ℕ) (n s : ℕ) (bs : List (ℕ × ℕ)) →
    IsBoarding calls walks n s → AreBoardings calls walks inner n bs →
    AreBoardings calls walks inner (n + 1) (bs ++ (n, s) ∷ [])
boardings_more calls walks inner n s bs is h =
    record {
      all = λ j t l b. elim (cases_lt j n) [
        | inl lt ↦ elim (h.all j t lt b) [
          | inl old ↦ inl (old.0, get_kept bs (n, s) old.0 (j, t) old.1)
          | inr stays ↦ inr stays
        ]
        | inr ge ↦
            let e : j ≡ n = omega (arith, ge, l) in
            let walk : s ≡ t = same_walk calls walks n s t is (subst (λ (x : ℕ). IsBoarding calls walks x t) e b) in
            inl (
              length bs,
              get_added bs (n, s) (length bs) refl ∙ (ap (λ (x : ℕ). Some (n, x)) walk
                  ∙ ap (λ (x : ℕ). Some (x, t)) (sym e)),
            )
      ];
      each = λ k j t at. elim (get_cases bs (n, s) k (j, t) at) [
        | inl old ↦ let o = h.each k j t old in (o.0, omega (arith, o.1))
        | inr new ↦
            let place : j ≡ n = ap (λ (x : ℕ × ℕ). x.0) new.1 in
            let walk : t ≡ s = ap (λ (x : ℕ × ℕ). x.1) new.1 in (
              subst (λ (x : ℕ). IsBoarding calls walks x t) (sym place)
                  (subst (λ (x : ℕ). IsBoarding calls walks n x) (sym walk) is),
              omega (arith, place),
            )
      ];
      ascend = λ k l a b le at to. elim (get_cases bs (n, s) l b to) [
        | inl old ↦ elim (get_cases bs (n, s) k a at) [
          | inl first ↦ h.ascend k l a b le first old
          | inr new ↦ let in_list = slice_get_within bs l b old in absurd (omega (arith, in_list, new.0, le))
        ]
        | inr new ↦
            let last : b.0 ≡ n = ap (λ (x : ℕ × ℕ). x.0) new.1 in
            elim (get_cases bs (n, s) k a at) [
              | inl first ↦ let o = h.each k a.0 a.1 first in omega (arith, o.1, last)
              | inr too ↦
                  let same : a.0 ≡ n = ap (λ (x : ℕ × ℕ). x.0) too.1 in
                  omega (arith, same, last)
            ]
      ];
    }

pub boardings_same : (calls : List Call) (walks inner : List ℕ) (n : ℕ) (bs : List (ℕ × ℕ)) →
    ((s : ℕ) → IsBoarding calls walks n s → StaysNear calls walks inner n s) → AreBoardings calls walks inner n bs →
    AreBoardings calls walks inner (n + 1) bs
boardings_same calls walks inner n bs stays h =
    record {
      all = λ j t l b. elim (cases_lt j n) [
        | inl lt ↦ h.all j t lt b
        | inr ge ↦
            let e : j ≡ n = omega (arith, ge, l) in
            inr (subst (λ (x : ℕ). StaysNear calls walks inner x t) (sym e)
            (stays t (subst (λ (x : ℕ). IsBoarding calls walks x t) e b)))
      ];
      each = λ k j t at. let o = h.each k j t at in (o.0, omega (arith, o.1));
      ascend = h.ascend;
    }

-- where nobody boards, or no walk leads, there is no boarding
pub no_boarding : (calls : List Call) (walks : List ℕ) (n s : ℕ) (call : Call) → slice_get calls n ≡ Some call →
    (call.board ≡ false) ⊎ (slice_index walks call.stop.0 ≡ NEVER) → IsBoarding calls walks n s → ⊥
no_boarding calls walks n s call here none b =
    let same : b.call ≡ call = same_Some b.call call (sym b.here ∙ here) in
    elim none [
      | inl nobody ↦
          let board : b.call.board ≡ false = ap (λ (c : Call). c.board) same ∙ nobody in
          false≢true (sym board ∙ b.may_board)
      | inr never ↦
          let walk : slice_index walks b.call.stop.0 ≡ NEVER =
          ap (λ (c : Call). slice_index walks c.stop.0) same ∙ never in
          b.some (sym b.walk ∙ walk)
    ]

-- who boards there after this walk stays near
pub stays_there : (calls : List Call) (walks inner : List ℕ) (n s : ℕ) (call : Call) → slice_get calls n ≡ Some call →
    StaysNear calls walks inner n (slice_index walks call.stop.0) → IsBoarding calls walks n s →
    StaysNear calls walks inner n s
stays_there calls walks inner n s call here stays b =
    let same : b.call ≡ call = same_Some b.call call (sym b.here ∙ here) in
    let walk : slice_index walks call.stop.0 ≡ s =
    ap (λ (c : Call). slice_index walks c.stop.0) (sym same) ∙ b.walk in
    subst (λ (x : ℕ). StaysNear calls walks inner n x) walk stays

-- a walk from the origin is short, and is noted
near_short : (n : Net) → IsNet n → (origin p seconds : ℕ) → IsNear n origin p seconds → seconds ≤ MOST_FOOT_SECONDS
near_short n ok origin p seconds near = elim near [
  | inl stays ↦ omega (arith, stays.1)
  | inr foot ↦ foot_short n.feet ok.feet origin p seconds foot
]

module _ (n : Net) (origin : ℕ) (walks : List ℕ) (ok : IsNet n) (are : AreWalks n origin walks) where
  -- what is noted is a walk
  noted_walk : (p : ℕ) → p < n.stops → slice_index walks p ≢ NEVER → IsNear n origin p (slice_index walks p)
  noted_walk p l some = elim (are.each p l).some [ inl never ↦ absurd (some never) | inr near ↦ near ]

  no_longer : (p seconds : ℕ) → p < n.stops → IsNear n origin p seconds → slice_index walks p ≤ seconds
  no_longer p seconds l near = (are.each p l).walks seconds near

  -- who gets off at an inner stop that is no farther than where they boarded is there as soon on foot
  soon_on_foot : (inner : List ℕ) → AreInner n walks inner → (p time at seconds : ℕ) → p < n.stops →
      slice_index inner p ≤ seconds → seconds ≤ MOST_FOOT_SECONDS → time + seconds ≤ at →
      IsAsSoonOnFoot n origin time p at
  soon_on_foot inner noted p time at seconds within low short in_time =
      let some : slice_index inner p ≢ NEVER = λ never. omega (arith, never, low, short) in
      let is = noted.each p (omega (arith, within, noted.long, are.long)) some in
      let same = is.0 in
      record {
        seconds = slice_index walks p;
        near = noted_walk p within (λ never. some (same ∙ never));
        in_time = omega (arith, same, low, in_time);
        onward = λ q walk foot.
            let to = foot_in_range n.feet ok.feet p q walk foot in
            let no_more = is.1 q walk foot in
            let few = foot_short n.feet ok.feet p q walk foot in (
              slice_index walks q,
              noted_walk q (omega (arith, to.0, ok.in_range.lists))
                  (λ never. omega (arith, never, no_more, few, same, low, short)),
              omega (arith, no_more, same, low, in_time),
            );
      }

  module _ (lines : LineTable) (lined : AreLinesOf n.stops n.trips lines) (line : ℕ) (row : Line) (calls : List Call)
      (times : List CallTimes) (at : slice_get lines.lines line ≡ Some row)
      (view : IsViewOf (rows_of_line n.trips row) calls times) where
    -- each position is at a stop that there is
    pub calls_in_range : All (λ (c : Call). c.stop.0 < length walks) calls
    calls_in_range k d l =
        let is = all_at (IsLine n.trips) lines.lines line row lined.lines.line at in
        let trip : ℕ = get_or row 0 0 in
        let first = slice_get-get_or row 0 0 is.some in
        let within = all_at (λ (i : ℕ). i < length n.trips) row 0 trip is.in_range first in
        let t = is_there n.trips trip within in
        let events = events_here n.trips row 0 trip t.0 first t.1 in
        let long = view.positions 0 t.0.events events in
        let e = is_there t.0.events k (omega (arith, l, long)) in
        let stop = event_stop n ok trip k e.0 (t.0, t.1, e.1) in
        let same = view.stop 0 k e.0 (get_or calls k d) (record { row = t.0.events; trip = events; event = e.1 })
        (slice_get-get_or calls k d l) in
        omega (arith, stop, same, are.long)

    -- where there is a boarding, a trip can be boarded first that departs no sooner
    catches_there : (trip r j s time : ℕ) (t : Trip) → slice_get row r ≡ Some trip → slice_get n.trips trip ≡ Some t →
        IsBoarding calls walks j s → ((on : Event) → slice_get t.events j ≡ Some on → time + s ≤ on.depart) →
        Catches n origin time trip j
    catches_there trip r j s time t here runs b caught =
        let events = events_here n.trips row r trip t here runs in
        let long = view.positions r t.events events in
        let goes = b.rides_on in
        let on = is_there t.events j (omega (arith, goes, long)) in
        let on_at : IsAt (rows_of_line n.trips row) r j on.0 =
        record { row = t.events; trip = events; event = on.1 } in
        let stop = view.stop r j on.0 b.call on_at b.here in
        let inside = event_stop n ok trip j on.0 (t, runs, on.1) in
        let length_of : slice_index walks on.0.stop.0 ≡ s = ap (λ (p : ℕ). slice_index walks p) (sym stop) ∙ b.walk in
        record {
          t = t;
          on = on.0;
          seconds = s;
          runs = runs;
          here = on.1;
          rides_on = omega (arith, goes, long);
          may_board = subst IsTrue (view.board r j on.0 b.call on_at b.here) b.may_board;
          near = subst (IsNear n origin on.0.stop.0) length_of
              (noted_walk on.0.stop.0 inside (λ never. b.some (sym length_of ∙ never)));
          in_time = caught on.0 on.1;
        }

    module _ (inner : List ℕ) (noted : AreInner n walks inner) (bs : List (ℕ × ℕ))
        (boards : AreBoardings calls walks inner (length calls) bs) where
      -- each boarding is at a position, after a short walk
      pub boardings_inside : (k j seconds : ℕ) → slice_get bs k ≡ Some (j, seconds) →
          (j < length calls) × (seconds ≤ MOST_FOOT_SECONDS)
      boardings_inside k j seconds here =
          let b = boards.each k j seconds here in
          let c = b.0.call in
          let within = calls_in_range j c b.1 in
          let same = get_or_from_slice_get calls j c c b.0.here in
          let stop : c.stop.0 < n.stops =
          omega (arith, ap (λ (x : Call). x.stop.0) same, within, are.long) in
          let some : slice_index walks c.stop.0 ≢ NEVER = λ never. b.0.some (sym b.0.walk ∙ never) in
          let short = near_short n ok origin c.stop.0 (slice_index walks c.stop.0) (noted_walk c.stop.0 stop some) in
          (b.1, omega (arith, short, b.0.walk))

      module _ (first : ℕ) (marks : List Bool) (covers : (r : ℕ) → r < length row → CoversTrip first bs
          (λ j. slice_index (departures_in times) (r * length calls + j)) marks (length bs)) where
        -- from the boarding at a position
        by_boarding : (trip r j k s m : ℕ) (c : Catches n origin (first + 60 * m) trip j) →
            slice_get row r ≡ Some trip → slice_get bs k ≡ Some (j, s) → s ≤ c.seconds → (i : ℕ) → j < i →
            IsUseful n origin first marks trip i m
        by_boarding trip r j k s m c here at_k low i later =
            let events = events_here n.trips row r trip c.t here c.runs in
            let is_at : IsAt (rows_of_line n.trips row) r j c.on =
            record { row = c.t.events; trip = events; event = c.here } in
            let time = view.departure r j c.on is_at in
            let in_time = c.in_time in
            let found = covers r (slice_get_within row r trip here) k j s m (slice_get_within bs k (j, s) at_k) at_k
            (omega (arith, time, in_time, low)) in
            let other = (boards.each found.i found.j found.seconds found.here).0 in
            let caught = found.in_time in
            let no_later = boards.ascend found.i k (found.j, found.seconds) (j, s) found.no_later found.here at_k in
            record {
              j = found.j;
              minute = found.minute;
              before = omega (arith, no_later, later);
              no_sooner = found.no_sooner;
              catches = catches_there trip r found.j found.seconds (first + 60 * found.minute) c.t here c.runs other
                  (λ on on_here. (let time = view.departure r found.j on
                  (record { row = c.t.events; trip = events; event = on_here }) in omega (arith, caught, time)));
              noted = found.noted;
            }

        -- of a ride that ends so many positions on, at most
        covered : (d trip j i m : ℕ) → i ≤ j + d → IsIn lines.lines line trip →
            (ride : FirstRide n origin (first + 60 * m) trip j i) →
            IsUseful n origin first marks trip i m
            ⊎ IsAsSoonOnFoot n origin (first + 60 * m) ride.off.stop.0 ride.off.arrive
        covered zero trip j i m near stands ride = let l = ride.later in absurd (omega (arith, l, near))
        covered (suc d) trip j i m near stands ride =
            let c = ride.on in
            let same = same_Some stands.0 row (sym stands.2 ∙ at) in
            let r = stands.1 in
            let here : slice_get row r ≡ Some trip = rw same at stands.3 in
            let events = events_here n.trips row r trip c.t here c.runs in
            let long = view.positions r c.t.events events in
            let is_at : IsAt (rows_of_line n.trips row) r j c.on =
            record { row = c.t.events; trip = events; event = c.here } in
            let goes = c.rides_on in
            let call = is_there calls j (omega (arith, goes, long)) in
            let stop = view.stop r j c.on call.0 is_at call.1 in
            let inside = event_stop n ok trip j c.on (c.t, c.runs, c.here) in
            let walk = no_longer c.on.stop.0 c.seconds inside c.near in
            let short = near_short n ok origin c.on.stop.0 c.seconds c.near in
            let walks_same = ap (λ (p : ℕ). slice_index walks p) stop in
            let w = slice_index walks call.0.stop.0 in
            let boarding : IsBoarding calls walks j w =
            record {
              call = call.0;
              here = call.1;
              rides_on = omega (arith, goes, long);
              may_board = subst IsTrue (sym (view.board r j c.on call.0 is_at call.1)) c.may_board;
              walk = refl;
              some = λ never. omega (arith, never, walks_same, walk, short);
            } in
            let low : w ≤ c.seconds = omega (arith, walk, walks_same) in
            let in_time = c.in_time in
            let later = ride.later in
            elim (boards.all j w (omega (arith, goes, long)) boarding) [
              | inl k ↦ inl (by_boarding trip r j k.0 w m c here k.1 low i later)
              | inr stays ↦
                  let within = slice_get_within c.t.events i ride.off ride.to in
                  let end = is_there calls i (omega (arith, within, long)) in
                  let end_at : IsAt (rows_of_line n.trips row) r i ride.off =
                  record { row = c.t.events; trip = events; event = ride.to } in
                  let end_stop = view.stop r i ride.off end.0 end_at end.1 in
                  let may = subst IsTrue (sym (view.alight r i ride.off end.0 end_at end.1)) ride.may_alight in
                  let rise = rises n ok trip c.t c.runs (i - j - 1) j i c.on ride.off (omega (arith, later)) c.here
                  ride.to in
                  elim (stays i end.0 later end.1 may) [
                    | inl near_end ↦
                        let there = event_stop n ok trip i ride.off (c.t, c.runs, ride.to) in
                        let inner_same = ap (λ (p : ℕ). slice_index inner p) end_stop in
                        inr (soon_on_foot inner noted ride.off.stop.0 (first + 60 * m) ride.off.arrive w there
                        (omega (arith, near_end, inner_same)) (omega (arith, low, short))
                        (omega (arith, low, in_time, rise)))
                    | inr b ↦
                        let caught = catches_there trip r b.0 b.1 (first + 60 * m) c.t here c.runs b.5
                        (λ on on_here. (
                        let up = rises n ok trip c.t c.runs (b.0 - j - 1) j b.0 c.on on (omega (arith, b.2)) c.here
                        on_here in
                        let stay = event_stays n ok trip b.0 on (c.t, c.runs, on_here) in
                        omega (arith, low, in_time, up, stay, b.4))) in
                        let same_trip : caught.t ≡ c.t = same_Some caught.t c.t (sym caught.runs ∙ c.runs) in
                        let rest : FirstRide n origin (first + 60 * m) trip b.0 i =
                        record {
                          on = caught;
                          off = ride.off;
                          later = b.3;
                          to = ap (λ (t : Trip). slice_get t.events i) same_trip ∙ ride.to;
                          may_alight = ride.may_alight;
                        } in
                        covered d trip b.0 i m (omega (arith, near, b.2)) stands rest
                  ]
            ]

        -- so each ride on a trip of the line is covered that can be made first
        pub line_covers : CoversLine n origin first lines.lines marks line
        line_covers trip j i m stands ride = covered i trip j i m (omega arith) stands ride

pub covers_line_still : {a b : List Bool} (n : Net) (origin first : ℕ) (lines : List Line) (line : ℕ) → Grows a b →
    CoversLine n origin first lines a line → CoversLine n origin first lines b line
covers_line_still n origin first lines line g h trip j i m stands ride = elim (h trip j i m stands ride) [
  | inl u ↦ inl (record {
    j = u.j;
    minute = u.minute;
    before = u.before;
    no_sooner = u.no_sooner;
    catches = u.catches;
    noted = noted_still g u.minute u.noted;
  })
  | inr soon ↦ inr soon
]

-- the trips of a line and their times, as its calls have them
pub record LineTimes (n : Net) (lines : LineTable) (line : ℕ) (calls : List Call) : Type 0 where
  pub row : Line
  pub times : List CallTimes
  pub at : slice_get lines.lines line ≡ Some row
  pub view : IsViewOf (rows_of_line n.trips row) calls times

pub times_of_line : (n : Net) (lines : LineTable) → AreLinesOf n.stops n.trips lines → (line : ℕ) (calls : List Call) →
    slice_get lines.calls line ≡ Some calls → LineTimes n lines line calls
times_of_line n lines lined line calls here =
    let within = slice_get_within lines.calls line calls here in
    let row = is_there lines.lines line (omega (arith, within, lined.viewed.calls_size)) in
    let times = is_there lines.times line (omega (arith, within, lined.viewed.calls_size, lined.viewed.times_size)) in
    record {
      row = row.0;
      times = times.0;
      at = row.1;
      view = lined.viewed.view line row.0 calls times.0 row.1 here times.1;
    }
