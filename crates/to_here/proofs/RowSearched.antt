-- When the searched deadlines of a destination are enough.
use Rattle.std.proofs.Common.{◌≡◌, ◌⊎◌, inl, inr, ℕ, ◌+◌, ◌-◌, ◌*◌, ◌<◌, ◌≤◌, List, [], ◌∷◌}
use Rattle.std.proofs.Common.{◌++◌, All, Contains, append-nil, drop, length}
use Rattle.std.proofs.Common.{slice_get, slice_index, Some, take, sym, ◌∙◌, ap, subst, arith}
use Rattle.std.proofs.lemmas.Bool.{cases_lt}
use Rattle.std.proofs.lemmas.List.{drop_all, get_or-take, get_or_default, length-take-le, take_all}
use Rattle.std.proofs.lemmas.List.Elements.{All-from_get_or, All-nil, Contains-get_or}
use Rattle.std.proofs.lemmas.Option.{slice_get_within}
use Rattle.std.specs.List.Sorted.{IsNonDecreasing}
use Rattle.timetable.specs.Networks.{IsNet, Net}
use Rattle.rounds.specs.declared.window.Window.{Window}
use Rattle.rounds.specs.LatestFirst.{IsLaneDuration, after_batch, begun}
use Rattle.rounds.specs.Query.{AreDepartures}
use Rattle.rounds.proofs.SearchedBatches.{rises, rises_to}
use Rattle.reversal.specs.Deadlines.{AreWalksTo, IsDeadline}
use Rattle.reversal.specs.Mirror.{IsMirrored}
use Rattle.reversal.specs.ReadOut.{IsDeadlineLabel}
use Rattle.reversal.proofs.DurationsReadOut.{least_up_to}
use Rattle.reversal.proofs.MirroredNetworks.{mirrored_is_net}
use Rattle.to_here.specs.declared.row.OriginDurations.{OriginDurations}
use Rattle.to_here.specs.declared.search.Question.{Question}
use Rattle.to_here.specs.Front.{IsFrontOf}
use Rattle.to_here.specs.Row.{AreLastFronts, AreLowered, IsRowTo}
use Rattle.to_here.specs.Search.{AreDeadlinesFrom, AreMirroredDepartures, AreOriginsDone, AreOriginsSearched}
use Rattle.to_here.specs.Search.{FitsHorizon, IsLabelOf, IsOriginDone, IsOriginSearched, IsValidQuestion}
use Rattle.to_here.specs.Searched.{AreSearchedFor}
use Rattle.to_here.proofs.FrontsGrow.{full_fronts_are_enough}
use Rattle.to_here.proofs.RowFinished.{origin_finished}

-- what a vector holds once a slice of all its items was written
pub written_back : {X : Type 0} (len : ℕ) (old new : List X) → length new ≡ length old → length old ≡ len →
    take len (new ++ drop (length new) old) ≡ new
written_back len old new same long =
    let none : drop (length new) old ≡ [] = drop_all (length new) old (omega (arith, same)) in
    ap (λ xs. take len (new ++ xs)) none
    ∙ (ap (λ xs. take len xs) (append-nil new) ∙ take_all len new (omega (arith, same, long)))

module _ (n : Net) (p first : ℕ) (times : List ℕ) (are : AreDeadlinesFrom n p first times) where
  deadline : (j : ℕ) → j < length times → IsDeadline n p (slice_index times j) × (first ≤ slice_index times j)
  deadline j l = (are.exact (slice_index times j)).0 (Contains-get_or times j 0 l)

  listed : (time : ℕ) → IsDeadline n p time → first ≤ time → Contains times time
  listed time is le = (are.exact time).1 (is, le)

  same : (time : ℕ) (c : Contains times time) → slice_index times c.0 ≡ time
  same time c = get_or_default times c.0 0 time c.1 ∙ c.2

  -- no deadline is later than the last one that is listed
  final : 0 < length times → (time : ℕ) → IsDeadline n p time → time ≤ slice_index times (length times - 1)
  final some time is = elim (cases_lt time first) [
    | inl early ↦
        let last = (deadline (length times - 1) (omega (arith, some))).1 in
        omega (arith, early, last)
    | inr late ↦
        let c = listed time is late in
        let within = c.1 in
        let e = same time c in
        let up = rises_to times are.ascending c.0 (length times - 1) (omega (arith, within)) (omega (arith, some)) in
        omega (arith, e, up)
  ]

  -- if none is listed, every deadline is before the first start
  none_listed : length times ≡ 0 → (time : ℕ) → IsDeadline n p time → time < first
  none_listed none time is = elim (cases_lt time first) [
    | inl early ↦ early
    | inr late ↦
        let within = (listed time is late).1 in
        absurd (omega (arith, within, none))
  ]

-- a horizon fits if the last departure and the last deadline do
pub horizon_fits : (h : ℕ) (n : Net) (w : Window) (p : ℕ) (times : List ℕ) → AreDeadlinesFrom n p w.first times →
    w.first + 60 * (w.minutes - 1) ≤ h → (length times ≡ 0) ⊎ (slice_index times (length times - 1) ≤ h) →
    FitsHorizon h n w p
horizon_fits h n w p times are departs last =
    record {
      departures = λ a l. omega (arith, l, departs);
      deadlines = λ time is. elim last [
        | inl none ↦
            let early = none_listed n p w.first times are none time is in
            omega (arith, early, departs)
        | inr low ↦ elim (cases_lt 0 (length times)) [
          | inl some ↦
              let up = final n p w.first times are some time is in
              omega (arith, up, low)
          | inr none ↦
              let early = none_listed n p w.first times are (omega (arith, none)) time is in
              omega (arith, early, departs)
        ]
      ];
    }

module _ (q : Question) (valid : IsValidQuestion q) (ok : IsNet q.networks.network.now) where
  abbrev n : Net
  n = q.networks.network.now

  abbrev m : Net
  m = q.networks.mirrored.now

  abbrev h : ℕ
  h = q.networks.horizon

  abbrev p : ℕ
  p = q.destination.0

  abbrev first : ℕ
  first = q.window.first

  mirror : IsMirrored h n m
  mirror = subst (IsMirrored h n) (sym valid.networks.mirror) (mirrored_is_net h n ok valid.networks.axis).0

  -- a label of a search is right as far as any start needs it
  right : (time o label : ℕ) → time ≤ h → IsLabelOf q time o label →
      IsDeadlineLabel h m first p q.rides o time label
  right time o label low one =
      least_up_to m p (h - time) q.rides o (time - first) label (omega (arith, low, valid.networks.axis)) one

  module _ (times : List ℕ) (are : AreDeadlinesFrom n p first times) where
    pub in_range : (j : ℕ) → j < length times → slice_index times j ≤ h
    in_range j l = valid.horizon.deadlines (slice_index times j) (deadline n p first times are j l).0

    -- the mirrored departures can be searched
    pub departures_ascend : 0 < length times → (departures : List ℕ) → AreMirroredDepartures h times departures →
        AreDepartures departures
    departures_ascend some departures d =
        record {
          some = omega (arith, some, d.count);
          ascend = λ j l.
              let k = length times - 1 - (j + 1) in
              let next : k + 1 ≡ length times - 1 - j = omega (arith, l, d.count) in
              let up = are.ascending k (omega (arith, l, d.count)) in
              let e = ap (λ i. slice_index times i) next in
              let low = in_range (length times - 1 - j) (omega (arith, some)) in
              let a = d.each j (omega (arith, l, d.count)) in
              let b = d.each (j + 1) (omega (arith, l, d.count)) in
              omega (arith, a, b, up, e, low);
          on_axis = λ j l.
              let a = d.each j (omega (arith, l, d.count)) in
              omega (arith, a, valid.networks.axis);
        }

    -- none is listed, so none serves
    pub none_left : length times ≡ 0 → (o : ℕ) (x : OriginDurations) → IsOriginSearched q [] o x → IsOriginDone q o x
    none_left none o x s =
        let never : (time : ℕ) → IsDeadline n p time → first ≤ time → ⊥ = λ time is le.
        let early = none_listed n p first times are none time is in
        omega (arith, early, le) in
        record {
          through = first;
          times = [];
          labels = s.labels;
          searched = record {
            net = ok;
            axis = valid.networks.axis;
            horizon = valid.networks.horizon;
            mirror = mirror;
            departures = valid.horizon.departures;
            searched = record {
              count = s.front.labelled;
              ascending = λ i j d le l. absurd (omega (arith, l));
              range = All-nil (λ (time : ℕ). (time ≤ first) × (time ≤ h));
              each = λ time is le low. absurd (never time is le);
              label = λ j l. absurd (omega (arith, l));
            };
          };
          enough = λ a l. inl (λ time is.
              let early = none_listed n p first times are none time is in
              omega (arith, early));
          front = s.front;
        }

    module _ (done : ℕ) (some : 0 < done) (within : done ≤ length times) where
      abbrev ts : List ℕ
      ts = take done times

      abbrev through : ℕ
      through = slice_index times (done - 1)

      long : length ts ≡ done
      long = length-take-le done times within

      at : (j : ℕ) → j < done → slice_index ts j ≡ slice_index times j
      at j l = get_or-take done times j 0 l

      ascending : IsNonDecreasing ts
      ascending i j d le l =
          let early : i < done = omega (arith, le, l, long) in
          let late : j < done = omega (arith, l, long) in
          let a = get_or-take done times i d early ∙ get_or_default times i d 0 (omega (arith, early, within)) in
          let b = get_or-take done times j d late ∙ get_or_default times j d 0 (omega (arith, late, within)) in
          let up = rises_to times are.ascending i j le (omega (arith, late, within)) in
          omega (arith, a, b, up)

      in_order : (i : ℕ) → i < length ts → (slice_index ts i ≤ through) × (slice_index ts i ≤ h)
      in_order i l =
          let early : i < done = omega (arith, l, long) in
          let e = at i early in
          let up = rises_to times are.ascending i (done - 1) (omega (arith, early)) (omega (arith, some, within)) in
          let low = in_range i (omega (arith, early, within)) in
          (omega (arith, e, up), omega (arith, e, low))

      range : All (λ time. (time ≤ through) × (time ≤ h)) ts
      range = All-from_get_or (λ (time : ℕ). (time ≤ through) × (time ≤ h)) ts 0 in_order

      each : (time : ℕ) → IsDeadline n p time → first ≤ time → time ≤ through → Contains ts time
      each time is le low =
          let c = listed n p first times are time is le in
          let i = c.0 in
          let there = c.1 in
          let e = same n p first times are time c in
          elim (cases_lt i done) [
            | inl early ↦ (i, omega (arith, early, long), get_or-take done times i time early ∙ c.2)
            | inr late ↦
                let split : done - 1 + (i - (done - 1)) ≡ i = omega (arith, late, some) in
                let up = rises times are.ascending (done - 1) (i - (done - 1)) (omega (arith, split, there)) in
                let here = ap (λ k. slice_index times k) split in
                absurd (omega (arith, up, here, e, low, late, some))
          ]

      searched : (o : ℕ) (x : OriginDurations) (s : IsOriginSearched q ts o x) →
          AreSearchedFor h n m q.window through p q.rides o ts s.labels
      searched o x s =
          record {
            net = ok;
            axis = valid.networks.axis;
            horizon = valid.networks.horizon;
            mirror = mirror;
            departures = valid.horizon.departures;
            searched = record {
              count = s.front.labelled;
              ascending = ascending;
              range = range;
              each = each;
              label = λ j l.
                  let early : j < done = omega (arith, l, long) in
                  let low = in_range j (omega (arith, early, within)) in
                  let e = at j early in
                  right (slice_index ts j) o (slice_index s.labels j) (omega (arith, low, e)) (s.each j l);
            };
          }

      -- all deadlines were searched
      pub all_searched : done ≡ length times → (o : ℕ) (x : OriginDurations) → IsOriginSearched q ts o x →
          IsOriginDone q o x
      all_searched all o x s =
          record {
            through = through;
            times = ts;
            labels = s.labels;
            searched = searched o x s;
            enough = λ a l. inl (λ time is.
                let up = final n p first times are (omega (arith, some, within)) time is in
                let e = ap (λ k. slice_index times (k - 1)) all in
                omega (arith, up, e));
            front = s.front;
          }

      -- the front of the origin is its last front
      pub front_reached : (o : ℕ) (x : OriginDurations) (label last : ℕ) → IsOriginSearched q ts o x →
          IsLabelOf q (slice_index times (length times - 1)) o label →
          IsFrontOf q.window (slice_index times (length times - 1)) label last → last ≤ x.front → IsOriginDone q o x
      front_reached o x label last s labelled ends reached =
          let some_listed : 0 < length times = omega (arith, some, within) in
          let end = slice_index times (length times - 1) in
          let low = in_range (length times - 1) (omega (arith, some_listed)) in
          record {
            through = through;
            times = ts;
            labels = s.labels;
            searched = searched o x s;
            enough = full_fronts_are_enough h n m q.window through p q.rides o x.front end label last ts s.labels
                x.durations.items s.front low (final n p first times are some_listed)
                (right end o label low labelled) ends reached;
            front = s.front;
          }

      pub row_complete : (row : List OriginDurations) → done ≡ length times → AreOriginsSearched q ts row →
          AreOriginsDone q row
      row_complete row all s = record { count = s.count; each = λ o x is. all_searched all o x (s.each o x is) }

      pub row_reached : (labels lasts : List ℕ) (row : List OriginDurations) → AreOriginsSearched q ts row →
          length labels ≡ n.stops →
          ((o : ℕ) → o < n.stops → IsLabelOf q (slice_index times (length times - 1)) o (slice_index labels o)) →
          AreLastFronts q.window (slice_index times (length times - 1)) labels lasts →
          ((o : ℕ) (x : OriginDurations) → slice_get row o ≡ Some x → slice_index lasts o ≤ x.front) →
          AreOriginsDone q row
      row_reached labels lasts row s count labelled ends full =
          record {
            count = s.count;
            each = λ o x is.
                let low : o < n.stops = omega (arith, slice_get_within row o x is, s.count) in
                front_reached o x (slice_index labels o) (slice_index lasts o) (s.each o x is) (labelled o low)
                (ends.each o (omega (arith, low, count))) (full o x is);
          }

    pub row_empty : length times ≡ 0 → (row : List OriginDurations) → AreOriginsSearched q [] row →
        AreOriginsDone q row
    row_empty none row s = record { count = s.count; each = λ o x is. none_left none o x (s.each o x is) }

  -- the label of one time that was searched alone
  pub alone : (end o label : ℕ) →
      IsLaneDuration (after_batch (begun m p ((h - end) ∷ []) q.rides)) o 0 label → IsLabelOf q end o label
  alone end o label lane = lane.used (omega arith)

  pub same_stops : m.stops ≡ n.stops
  same_stops = ap (λ (x : Net). x.stops) valid.networks.mirror

  -- the durations, each lowered to a walk alone, are those of the definition
  pub done_row : (walks : List ℕ) (old new : List OriginDurations) → length new ≡ length old →
      AreLowered walks old new → AreOriginsDone q old → AreWalksTo n.feet.walks p walks →
      IsRowTo n q.window q.rides p new
  done_row walks old new count lowered done walked =
      record {
        origins = count ∙ done.count;
        each = λ o a y is l.
            let was = lowered o y is in
            let x = was.0 in
            let d = done.each o x was.1 in
            let low : o < n.stops = omega (arith, slice_get_within old o x was.1, done.count) in
            let walk = walked.each o (omega (arith, low, ok.in_range.lists)) in
            origin_finished (slice_index walks o) h n m q.window d.through p q.rides o d.times d.labels x y d.searched
            d.enough d.front walk was.2 a l;
      }
