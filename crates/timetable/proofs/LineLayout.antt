-- Facts of the events of lines, as they are laid out.
use Rattle.std.proofs.Common.{◌≡◌, inl, inr, ℕ, ◌+◌, ◌*◌, ◌<◌, ◌≤◌, List, [], ◌∷◌, ◌++◌, map, false, length, slice_get}
use Rattle.std.proofs.Common.{slice_index, get_or, Some, All, sym, ◌∙◌, ap, subst, arith}
use Rattle.std.proofs.Math.Nat.{mul-le-mul_right}
use Rattle.std.proofs.lemmas.Bool.{cases_lt}
use Rattle.std.proofs.lemmas.Option.{same_Some, slice_get-get_or, slice_get_within, get_or_from_slice_get}
use Rattle.std.proofs.lemmas.Option.{slice_get_cases}
use Rattle.std.proofs.lemmas.List.{length-append, length_push, length-map, map-append, get_or-map, get_or_append_left}
use Rattle.std.proofs.lemmas.List.{get_or-append-add}
use Rattle.std.proofs.lemmas.Simd.{map-map}
use Rattle.timetable.specs.declared.trips.Event.{Event}
use Rattle.timetable.specs.declared.trips.Trip.{Trip}
use Rattle.timetable.specs.declared.views.Call.{Call}
use Rattle.timetable.specs.Lines.{Line, IsLine, AreViews}
use Rattle.timetable.specs.declared.views.CallTimes.{CallTimes}
use Rattle.timetable.specs.LineViews.{events_of, rows_of_line, call_of, times_at, arrives, departs, arrivals_in}
use Rattle.timetable.specs.LineViews.{departures_in, IsAt, IsViewOf, IsGrid, AreFor, AreTimes, IsCalls, IsTimes}
use Rattle.timetable.proofs.KnownParts.{all_at}
use Rattle.timetable.proofs.ListsAddedTo.{get_cases}

-- one more row of numbers
pub grid_more : (m n : ℕ) (F : ℕ → ℕ → ℕ) (xs ys : List ℕ) → IsGrid m n F xs → length ys ≡ n →
    ((b : ℕ) → b < n → slice_index ys b ≡ F m b) → IsGrid (m + 1) n F (xs ++ ys)
grid_more m n F xs ys ok long here =
    record {
      size = omega (arith, ok.size, length-append xs ys, long);
      at = λ a b l k. elim (cases_lt a m) [
        | inl lt ↦
            let up : a + 1 ≤ m = omega (arith, lt) in
            let rows = mul-le-mul_right n up in
            let within : a * n + b < length xs = omega (arith, rows, k, ok.size) in
            get_or_append_left xs ys 0 (a * n + b) within ∙ ok.at a b lt k
        | inr ge ↦
            let e : a ≡ m = omega (arith, ge, l) in
            let position : a * n + b ≡ length xs + b = ap (λ i. i * n + b) e ∙ ap (λ i. i + b) (sym ok.size) in
            ap (λ i. slice_index (xs ++ ys) i) position
            ∙ (get_or-append-add xs ys b 0 ∙ (here b k ∙ ap (λ i. F i b) (sym e)))
      ];
    }

pub grid_none : (n : ℕ) (F : ℕ → ℕ → ℕ) → IsGrid 0 n F []
grid_none n F = record { size = omega arith; at = λ a b l k. absurd (omega (arith, l)) }

-- one more line
pub for_more : {X : Type 0} (Fits : List ℕ → X →
    Type 0) (n : ℕ) (lines : List (List ℕ)) (made : List X) (line : List ℕ) (x : X) → AreFor Fits n lines made →
    slice_get lines n ≡ Some line → Fits line x → AreFor Fits (n + 1) lines (made ++ x ∷ [])
for_more {X} Fits n lines made line x ok at fits =
    record {
      size = omega (arith, length_push made x, ok.size);
      each = λ k other y h g. elim (get_cases made x k y g) [
        | inl old ↦ ok.each k other y h old
        | inr new ↦
            let e : k ≡ n = new.0 ∙ ok.size in
            let same : line ≡ other = same_Some line other (sym at ∙ (ap (λ i. slice_get lines i) (sym e) ∙ h)) in
            subst (λ (z : X). Fits other z) (sym new.1) (subst (λ (l : List ℕ). Fits l x) same fits)
      ];
    }

-- the events of a trip
pub events_at : (trips : List Trip) (i : ℕ) (t : Trip) → slice_get trips i ≡ Some t → events_of trips i ≡ t.events
events_at trips i t h =
    let l = slice_get_within trips i t h in
    get_or-map (λ (u : Trip). u.events) trips i t [] l
    ∙ ap (λ (u : Trip). u.events) (get_or_from_slice_get trips i t t h)

pub events_read : (trips : List Trip) (i : ℕ) (t : Trip) → i < length trips →
    events_of trips i ≡ (get_or trips i t).events
events_read trips i t l = get_or-map (λ (u : Trip). u.events) trips i t [] l

-- a row of a line
pub row_of : (trips : List Trip) (line : List ℕ) (r : ℕ) → r < length line →
    get_or (rows_of_line trips line) r [] ≡ events_of trips (get_or line r 0)
row_of trips line r l = get_or-map (events_of trips) line r 0 [] l

-- each row has as many events as the first
pub row_long : (trips : List Trip) (line : Line) → IsLine trips line → (t : Trip) →
    All (λ (row : List Event). length row ≡ length (events_of trips (slice_index line 0))) (rows_of_line trips line)
row_long trips line ok t r d l =
    let within : r < length line = omega (arith, l, length-map line (events_of trips)) in
    let one = slice_get-get_or line 0 0 ok.some in
    let two = slice_get-get_or line r 0 within in
    let first = slice_get-get_or trips (get_or line 0 0) t
    (all_at (λ i. i < length trips) line 0 (get_or line 0 0) ok.in_range one) in
    let other = slice_get-get_or trips (get_or line r 0) t
    (all_at (λ i. i < length trips) line r (get_or line r 0) ok.in_range two) in
    let same = (ok.order 0 r (get_or line 0 0) (get_or line r 0) (get_or trips (get_or line 0 0) t)
    (get_or trips (get_or line r 0) t) (omega arith) one two first other).same_length in
    let read : get_or (rows_of_line trips line) r d ≡ events_of trips (get_or line r 0) =
    get_or-map (events_of trips) line r 0 d within in
    ap length read ∙ (ap length (events_at trips (get_or line r 0) (get_or trips (get_or line r 0) t) other)
    ∙ (sym same ∙ ap length (sym (events_at trips (get_or line 0 0) (get_or trips (get_or line 0 0) t) first))))

-- the times of one more trip, by when it arrives or by when it departs
row_more : (time : Event → ℕ) (trips : List Trip) (line : List ℕ) (r positions : ℕ) (t : Trip) (xs : List ℕ) →
    r < length line → get_or line r 0 < length trips →
    All (λ (row : List Event). length row ≡ positions) (rows_of_line trips line) →
    IsGrid r positions (λ a b. slice_index (map time (get_or (rows_of_line trips line) a [])) b) xs →
    IsGrid (r + 1) positions (λ a b. slice_index (map time (get_or (rows_of_line trips line) a [])) b)
    (xs ++ map time (get_or trips (get_or line r 0) t).events)
row_more time trips line r positions t xs l within all ok =
    let l' : r < length (rows_of_line trips line) = omega (arith, l, length-map line (events_of trips)) in
    let read = row_of trips line r l ∙ events_read trips (get_or line r 0) t within in
    let events = (get_or trips (get_or line r 0) t).events in
    let long : length events ≡ positions = subst (λ (row : List Event). length row ≡ positions) read (all r [] l') in
    grid_more r positions (λ a b. slice_index (map time (get_or (rows_of_line trips line) a [])) b) xs
    (map time events) ok
    (length-map events time ∙ long)
    (λ b k. ap (λ (row : List Event). slice_index (map time row) b) (sym read))

-- the arrivals of some events' times are theirs, and so are the departures
arrivals_added : (xs : List CallTimes) (events : List Event) →
    arrivals_in (xs ++ map times_at events) ≡ arrivals_in xs ++ map (λ (e : Event). e.arrive) events
arrivals_added xs events = map-append (λ (t : CallTimes). t.arrive) xs (map times_at events)
    ∙ ap (λ (ys : List ℕ). arrivals_in xs ++ ys) (map-map (λ (t : CallTimes). t.arrive) times_at events)

departures_added : (xs : List CallTimes) (events : List Event) →
    departures_in (xs ++ map times_at events) ≡ departures_in xs ++ map (λ (e : Event). e.depart) events
departures_added xs events = map-append (λ (t : CallTimes). t.depart) xs (map times_at events)
    ∙ ap (λ (ys : List ℕ). departures_in xs ++ ys) (map-map (λ (t : CallTimes). t.depart) times_at events)

-- the times of one more trip
pub times_more : (trips : List Trip) (line : List ℕ) (r positions : ℕ) (t : Trip) (xs : List CallTimes) →
    r < length line →
    get_or line r 0 < length trips → All (λ (row : List Event). length row ≡ positions) (rows_of_line trips line) →
    AreTimes r positions (rows_of_line trips line) xs →
    AreTimes (r + 1) positions (rows_of_line trips line) (xs ++ map times_at (get_or trips (get_or line r 0) t).events)
times_more trips line r positions t xs l within all ok =
    let events = (get_or trips (get_or line r 0) t).events in
    record {
      arrivals = subst (λ (ns : List ℕ). IsGrid (r + 1) positions (arrives (rows_of_line trips line)) ns)
          (sym (arrivals_added xs events)) (row_more (λ (e : Event). e.arrive) trips line r positions t
          (arrivals_in xs) l within all ok.arrivals);
      departures = subst (λ (ns : List ℕ). IsGrid (r + 1) positions (departs (rows_of_line trips line)) ns)
          (sym (departures_added xs events)) (row_more (λ (e : Event). e.depart) trips line r positions t
          (departures_in xs) l within all ok.departures);
    }

pub times_none : (positions : ℕ) (rows : List (List Event)) → AreTimes 0 positions rows []
times_none positions rows = record {
  arrivals = grid_none positions (arrives rows);
  departures = grid_none positions (departs rows);
}

-- a time of an event of the rows
time_at : (time : Event → ℕ) (rows : List (List Event)) (r j : ℕ) (e : Event) → IsAt rows r j e →
    slice_index (map time (get_or rows r [])) j ≡ time e
time_at time rows r j e h =
    let row = get_or_from_slice_get rows r h.row [] h.trip in
    let within = slice_get_within h.row j e h.event in
    ap (λ (x : List Event). slice_index (map time x) j) row
    ∙ (get_or-map time h.row j e 0 within ∙ ap time (get_or_from_slice_get h.row j e e h.event))

-- the call at a position is that of each trip's event there
alike_at : (trips : List Trip) (line : Line) → IsLine trips line → (t : Trip) (none : Event) (calls : List Call) →
    IsCalls trips line calls → (r j : ℕ) (e : Event) (c : Call) → IsAt (rows_of_line trips line) r j e →
    slice_get calls j ≡ Some c → (c.stop.0 ≡ e.stop.0) × (c.board ≡ e.board) × (c.alight ≡ e.alight)
alike_at trips line ok t none calls is_calls r j e c h g =
    let rows = rows_of_line trips line in
    let first = events_of trips (slice_index line 0) in
    let w = slice_get_within rows r h.row h.trip in
    let within : r < length line = omega (arith, w, length-map line (events_of trips)) in
    let one = slice_get-get_or line 0 0 ok.some in
    let two = slice_get-get_or line r 0 within in
    let one_in = all_at (λ i. i < length trips) line 0 (get_or line 0 0) ok.in_range one in
    let two_in = all_at (λ i. i < length trips) line r (get_or line r 0) ok.in_range two in
    let t_one = get_or trips (get_or line 0 0) t in
    let t_two = get_or trips (get_or line r 0) t in
    let follows = ok.order 0 r (get_or line 0 0) (get_or line r 0) t_one t_two (omega arith) one two
    (slice_get-get_or trips (get_or line 0 0) t one_in) (slice_get-get_or trips (get_or line r 0) t two_in) in
    let first_is : first ≡ t_one.events = events_read trips (get_or line 0 0) t one_in in
    let row_is : h.row ≡ t_two.events = sym (get_or_from_slice_get rows r h.row [] h.trip)
    ∙ (row_of trips line r within ∙ events_read trips (get_or line r 0) t two_in) in
    let there : slice_get t_two.events j ≡ Some e = subst (λ (x : List Event). slice_get x j ≡ Some e) row_is h.event in
    let j_in : j < length t_one.events = omega (arith, slice_get_within t_two.events j e there, follows.same_length) in
    let f = get_or t_one.events j none in
    let fs = follows.events j f e (slice_get-get_or t_one.events j none j_in) there in
    let c_is : c ≡ call_of f = sym (get_or_from_slice_get calls j c c g)
    ∙ (ap (λ (x : List Call). get_or x j c) (is_calls ∙ ap (λ (x : List Event). map call_of x) first_is)
    ∙ get_or-map call_of t_one.events j none c j_in) in (
      ap (λ (x : Call). x.stop.0) c_is ∙ fs.stop,
      ap (λ (x : Call). x.board) c_is ∙ fs.board,
      ap (λ (x : Call). x.alight) c_is ∙ fs.alight,
    )

-- calls and times of one line show its trips
pub view_of_line : (trips : List Trip) (line : Line) (calls : List Call) (times : List CallTimes) → IsLine trips line →
    (t : Trip) (none : Event) → IsCalls trips line calls → IsTimes trips line times →
    IsViewOf (rows_of_line trips line) calls times
view_of_line trips line calls times ok t none is_calls is_times =
    let rows = rows_of_line trips line in
    let first = events_of trips (slice_index line 0) in
    let rows_long = length-map line (events_of trips) in
    let calls_long : length calls ≡ length first = ap length is_calls ∙ length-map first call_of in
    let long = λ (r : ℕ) (row : List Event) (h : slice_get rows r ≡ Some row).
    all_at (λ (x : List Event). length x ≡ length first) rows r row (row_long trips line ok t) h in
    let alike = λ (r j : ℕ) (e : Event) (c : Call) (h : IsAt rows r j e) (g : slice_get calls j ≡ Some c).
    alike_at trips line ok t none calls is_calls r j e c h g in
    let r_in = λ (r j : ℕ) (e : Event) (h : IsAt rows r j e). let w = slice_get_within rows r h.row h.trip in
    let inside : r < length line = omega (arith, w, rows_long) in inside in
    let j_in = λ (r j : ℕ) (e : Event) (h : IsAt rows r j e). let w = slice_get_within h.row j e h.event in
    let inside : j < length first = omega (arith, w, long r h.row h.trip) in inside in
    record {
      positions = λ r row h. long r row h ∙ sym calls_long;
      size = sym (length-map times (λ (x : CallTimes). x.arrive))
          ∙ (is_times.arrivals.size ∙ (ap (λ n. length line * n) (sym calls_long)
          ∙ ap (λ n. n * length calls) (sym rows_long)));
      stop = λ r j e c h g. (alike r j e c h g).0;
      board = λ r j e c h g. (alike r j e c h g).1;
      alight = λ r j e c h g. (alike r j e c h g).2;
      arrival = λ r j e h. ap (λ n. slice_index (arrivals_in times) (r * n + j)) calls_long
          ∙ (is_times.arrivals.at r j (r_in r j e h) (j_in r j e h) ∙ time_at (λ (x : Event). x.arrive) rows r j e h);
      departure = λ r j e h. ap (λ n. slice_index (departures_in times) (r * n + j)) calls_long
          ∙ (is_times.departures.at r j (r_in r j e h) (j_in r j e h) ∙ time_at (λ (x : Event). x.depart) rows r j e h);
    }

-- those of all lines show theirs
pub views_of_lines : (trips : List Trip) (lines : List Line) (boarded : List (List (ℕ × ℕ))) (calls : List (List Call))
    (times : List (List CallTimes)) → All (IsLine trips) lines → AreFor (IsCalls trips) (length lines) lines calls →
    AreFor (IsTimes trips) (length lines) lines times →
    AreViews trips (record { lines = lines; boarded = boarded; calls = calls; times = times })
views_of_lines trips lines boarded calls times ok is_calls is_times =
    record {
      calls_size = is_calls.size;
      times_size = is_times.size;
      view = λ line row cs ts at_line at_calls at_times.
          let its = all_at (IsLine trips) lines line row ok at_line in
          let first = its.in_range 0 0 its.some in
          elim (slice_get_cases trips (get_or row 0 0)).1 [
            | inl h ↦ view_of_line trips row cs ts its h.0 (record {
              stop = record { 0 = 0 };
              arrive = 0;
              depart = 0;
              board = false;
              alight = false;
            }) (is_calls.each line row cs at_line at_calls)
                (is_times.each line row ts at_line at_times)
            | inr h ↦ absurd (let past = h.0 in omega (arith, past, first))
          ];
    }
