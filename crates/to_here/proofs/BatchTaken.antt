-- The labels of a batch continue those of the deadlines before it.
use Rattle.std.proofs.Common.{◌≡◌, inl, inr, ℕ, ◌+◌, ◌-◌, ◌%◌, ◌<◌, ◌≤◌, ◌++◌, List, All, drop, length}
use Rattle.std.proofs.Common.{slice_index, take, take-add, sym, ◌∙◌, ap, subst, arith, length-drop}
use Rattle.std.specs.List.{slice_range}
use Rattle.std.proofs.lemmas.Bool.{cases_lt}
use Rattle.std.proofs.lemmas.List.{get_or-append-add, get_or-take, get_or_append_left, length-take-le}
use Rattle.timetable.specs.Journeys.{IsDuration}
use Rattle.timetable.specs.Least.{IsLeastOrNever}
use Rattle.timetable.specs.Networks.{Net}
use Rattle.rounds.specs.LatestFirst.{DepartureSearch, IsLaneDuration, after_batch}
use Rattle.to_here.specs.declared.row.OriginDurations.{OriginDurations}
use Rattle.to_here.specs.declared.search.Question.{Question}
use Rattle.to_here.specs.Front.{IsFront}
use Rattle.to_here.specs.Row.{IsOriginOf}
use Rattle.to_here.specs.Search.{AreOriginsSearched, HasTaken, HaveTaken, IsLabelOf, IsOriginSearched, IsSearchOf}

module _ (q : Question) (times : List ℕ) (s : DepartureSearch) (is : IsSearchOf q times s) (more : 0 < s.from)
    (whole : s.from % 16 ≡ 0) (few : s.from < length times + 16) where
  abbrev from : ℕ
  from = length times - s.from

  abbrev to : ℕ
  to = length times - (s.from - 16)

  abbrev batch : List ℕ
  batch = slice_range times from to

  sixteen : 16 ≤ s.from
  sixteen = omega (arith, more, whole)

  long : length (take to times) ≡ to
  long = length-take-le to times (omega arith)

  shorter : length (take from times) ≡ from
  shorter = length-take-le from times (omega arith)

  width : length batch ≡ to - from
  width = length-take-le (to - from) (drop from times) (omega (arith, length-drop from times))

  both : take to times ≡ take from times ++ batch
  both =
      let sum : from + (to - from) ≡ to = omega (arith, sixteen, few) in
      ap (λ n. take n times) (sym sum) ∙ take-add from (to - from) times

  -- the lane of a deadline in the batch is that of its mirrored departure
  of_lane : (o j label : ℕ) → from ≤ j → j < to →
      IsLaneDuration (after_batch s) o (length batch - 1 - (j - from)) label → IsLabelOf q (slice_index times j) o label
  of_lane o j label le l lane =
      let k = s.from - 16 + (length batch - 1 - (j - from)) in
      let there : k ≡ length times - 1 - j = omega (arith, le, l, width, sixteen, few) in
      let count = is.departures.count in
      let back : length times - 1 - k ≡ j = omega (arith, there, l) in
      let start = is.departures.each k (omega (arith, there, l))
      ∙ ap (λ i. q.networks.horizon - slice_index times i) back in
      let depart = q.networks.horizon - slice_index times j in
      subst (λ (net : Net). IsLeastOrNever (IsDuration net q.destination.0 depart q.rides o) label) is.net
      (subst (λ (a : ℕ). IsLeastOrNever (IsDuration s.net a depart q.rides o) label) is.origin
      (subst (λ (r : ℕ). IsLeastOrNever (IsDuration s.net s.origin depart r o) label) is.rides
      (subst (λ (t : ℕ). IsLeastOrNever (IsDuration s.net s.origin t s.rides o) label) start
      (lane.used (omega (arith, there, l, count))))))

  one_more : (o : ℕ) (y x : OriginDurations) → IsOriginSearched q (take from times) o y →
      HasTaken q.window batch (after_batch s) o y x → IsOriginSearched q (take to times) o x
  one_more o y x was taken =
      let all = was.labels ++ taken.labels in
      let labelled : length was.labels ≡ from = was.front.labelled ∙ shorter in
      record {
        labels = all;
        front = subst (λ (ts : List ℕ). IsFront q.window ts all x.front x.durations.items) (sym both)
            (taken.front (take from times) was.labels was.front);
        each = λ j l.
            let below : j < to = omega (arith, l, long) in
            let time : slice_index (take to times) j ≡ slice_index times j = get_or-take to times j 0 below in
            elim (cases_lt j from) [
              | inl early ↦
                  let before : slice_index (take from times) j ≡ slice_index times j =
                  get_or-take from times j 0 early in
                  let label : slice_index all j ≡ slice_index was.labels j =
                  get_or_append_left was.labels taken.labels 0 j (omega (arith, early, labelled)) in
                  subst (λ (t : ℕ). IsLabelOf q t o (slice_index all j)) (before ∙ sym time)
                  (subst (IsLabelOf q (slice_index (take from times) j) o) (sym label)
                  (was.each j (omega (arith, early, shorter))))
              | inr late ↦
                  let i = j - from in
                  let place : length was.labels + i ≡ j = omega (arith, late, labelled) in
                  let label : slice_index all j ≡ slice_index taken.labels i =
                  ap (λ k. slice_index all k) (sym place) ∙ get_or-append-add was.labels taken.labels i 0 in
                  subst (λ (t : ℕ). IsLabelOf q t o (slice_index all j)) (sym time)
                  (subst (IsLabelOf q (slice_index times j) o) (sym label)
                  (of_lane o j (slice_index taken.labels i) late below
                  (taken.each i (omega (arith, late, below, width)))))
            ];
      }

  pub batch_taken : (old new : List OriginDurations) → AreOriginsSearched q (take from times) old →
      length new ≡ length old → All (IsOriginOf q.window) new → HaveTaken q.window batch (after_batch s) old new →
      AreOriginsSearched q (take to times) new
  batch_taken old new was count origins taken =
      record {
        count = count ∙ was.count;
        origins = origins;
        each = λ o x at.
            let t = taken o x at in
            one_more o t.0 x (was.each o t.0 t.1) t.2;
      }
