-- The labels of a search represent the least durations.
use Rattle.std.proofs.Common.{◌≡◌, ◌≢◌, ◌<◌, ◌≤◌, ◌+◌, ◌-◌, ◌*◌, ◌/◌, ◌%◌, ◌==◌, ℕ, Bool, List, Option, Some, None, min, ap}
use Rattle.std.proofs.Common.{length, slice_index, refl, sym, subst, ◌∙◌, arith, if◌then◌else◌, inl, inr}
use Rattle.std.proofs.lemmas.Bool.{cases_eq, cases_lt, ne_eqb, eq-eqb}
use Rattle.std.proofs.lemmas.List.FromFn.{length-map-range_with_len, get_or-map-range_with_len}
use Rattle.std.proofs.lemmas.Nat.{div-mul-add, mod-mul-add}
use Rattle.std.proofs.lemmas.Option.{none-some, same_Some}
use Rattle.std.proofs.lemmas.Simd.{get_or-chunk}
use Rattle.std.specs.List.{range_with_len}
use Rattle.std.specs.Prelude.{map}
use Rattle.timetable.proofs.KnownParts.{foot_in_range, foot_short}
use Rattle.timetable.proofs.RenumberedJourneys.{labels_stay}
use Rattle.timetable.specs.declared.least.TheConstants.{NEVER}
use Rattle.timetable.specs.declared.trips.StopNo.{StopNo}
use Rattle.timetable.specs.Journeys.{IsDuration}
use Rattle.timetable.specs.Least.{IsLeastOrNever}
use Rattle.timetable.specs.Networks.{Net, IsNet}
use Rattle.timetable.specs.Numbering.{number_in}
use Rattle.useful_minutes.proofs.FilledLabels.{position_before}
use Rattle.useful_minutes.specs.Boarding.{IsNear}
use Rattle.useful_minutes.specs.Counted.{IsCounted, narrow_at}
use Rattle.useful_minutes.specs.Plan.{StandsIn}
use Rattle.useful_minutes.specs.Waits.{IsWalked}
use Rattle.rounds.proofs.CountedMinutes.{at_within, counted_in, counted_since}
use Rattle.rounds.proofs.DurationsUnique.{durations_unique}
use Rattle.rounds.proofs.FilledTable.{known_least}
use Rattle.rounds.proofs.LeastWalks.{IsLeastWalk, known_lowered, least_is_least, lesser_none}
use Rattle.rounds.specs.Labels.{AreLabelsOf, AreQueryLabels, AreWalksFrom, AreWindowLabels}
use Rattle.rounds.specs.Labels.{IsDurationFrom, Represent, labels_of, least_walk, lesser, walk_seconds, walk_stop}
use Rattle.rounds.specs.Laws.{LabelsRepresentDurations}
use Rattle.rounds.specs.Query.{IsQueryOf, IsValidQuery}
use Rattle.rounds.specs.Skipped.{IsPlanOf}
use Rattle.rounds.specs.Table.{DurationTable, at, known_of, IsLeastOrNone}
use Rattle.rounds.specs.Window.{departure, AreDurations}
use Rattle.rounds.specs.declared.labels.WindowLabels.{WindowLabels}
use Rattle.rounds.specs.declared.query.Query.{Query}
use Rattle.rounds.specs.declared.skipped.WindowPlan.{WindowPlan}

-- a walk alone leads to a stop that there is, and takes less than NEVER
near_in_range : (n : Net) → IsNet n → (origin p seconds : ℕ) → origin < n.stops → IsNear n origin p seconds →
    (p < n.stops) × (seconds < NEVER)
near_in_range n ok origin p seconds start near = elim near [
  | inl stays ↦ let s = stays.0 in let z = stays.1 in (omega (arith, s, start), omega (arith, z))
  | inr foot ↦
      let target = foot_in_range n.feet ok.feet origin p seconds foot in
      let short = foot_short n.feet ok.feet origin p seconds foot in
      (omega (arith, target, ok.in_range.lists), omega (arith, short))
]

-- a duration, lowered to the walks alone; as a number and as what may be missing
record IsLowered (n : Net) (origin p old : ℕ) (duration : Option ℕ) : Type 0 where
  value : ℕ
  walked : IsWalked n origin p old value
  known : known_of value ≡ duration

lowered : (n : Net) (origin p old : ℕ) (of_label : Option ℕ) (walks : List (StopNo × ℕ)) →
    known_of old ≡ of_label → AreWalksFrom n origin walks →
    ((i : ℕ) → i < length walks → walk_seconds walks i < NEVER) → (least : Option ℕ) →
    IsLeastWalk walks p (length walks) least → IsLowered n origin p old (lesser of_label least)
lowered n origin p old of_label walks known are few None least =
    record {
      value = old;
      walked = record {
        falls = omega arith;
        walks = λ seconds near.
            let one = are.complete p seconds near in
            let none = least.none_shorter one.0 one.1 one.2 in
            absurd (none-some none.0 none.1);
        some = inl refl;
      };
      known = known ∙ sym (lesser_none of_label);
    }
lowered n origin p old of_label walks known are few (Some s) least =
    let one = least.some s refl in
    let seconds = one.3 in
    let short = few one.0 one.1 in
    let near : IsNear n origin p s =
    subst (λ (x : ℕ). IsNear n origin x s) one.2
    (subst (λ (x : ℕ). IsNear n origin (walk_stop walks one.0) x) one.3 (are.sound one.0 one.1)) in
    record {
      value = min old s;
      walked = record {
        falls = omega arith;
        walks = λ seconds near.
            let other = are.complete p seconds near in
            let least_one = least.none_shorter other.0 other.1 other.2 in
            let same : s ≡ least_one.0 = same_Some s least_one.0 least_one.1 in
            let le = least_one.2 in
            let takes = other.3 in
            omega (arith, same, le, takes);
        some = elim (cases_lt s old) [
          | inl lt ↦ inr (subst (λ (x : ℕ). IsNear n origin p x) (omega (arith, lt)) near)
          | inr ge ↦ inl (omega (arith, ge))
        ];
      };
      known = known_lowered old s (omega (arith, seconds, short))
          ∙ ap (λ (o : Option ℕ). lesser o (Some s)) known;
    }

-- the duration that a label gives, as what may be missing, and as a number
abbrev pub of_label : ℕ → ℕ → ℕ → Option ℕ
of_label base depart label = if label == 65535 then None else Some (base + label - depart)

abbrev number_of : ℕ → ℕ → ℕ → ℕ
number_of base depart label = if label == 65535 then NEVER else base + label - depart

is_from : (base depart label : ℕ) → IsDurationFrom base depart label (of_label base depart label)
is_from base depart label =
    record {
      never = λ e. ap (λ (b : Bool). if b then None else Some (base + label - depart)) (eq-eqb label 65535 e);
      counted = λ ne. ap (λ (b : Bool). if b then None else Some (base + label - depart)) (ne_eqb label 65535 ne);
    }

-- a label that is a time no earlier than the departure
module _ (base depart label : ℕ) (since : label ≢ 65535 → depart ≤ base + label) (low : label ≤ 65535)
    (early : base < 16777216) where
  number_when_reached : label ≢ 65535 → number_of base depart label ≡ base + label - depart
  number_when_reached ne =
      ap (λ (b : Bool). if b then NEVER else base + label - depart) (ne_eqb label 65535 ne)

  number_when_never : label ≡ 65535 → number_of base depart label ≡ NEVER
  number_when_never e = ap (λ (b : Bool). if b then NEVER else base + label - depart) (eq-eqb label 65535 e)

  pub counted_number : IsCounted base depart label (number_of base depart label)
  counted_number =
      record {
        never_so = number_when_never;
        counted = λ ne.
            let is = number_when_reached ne in
            let after = since ne in
            omega (arith, is, after);
      }

  pub known_number : known_of (number_of base depart label) ≡ of_label base depart label
  known_number = elim (cases_eq label 65535) [
    | inl e ↦ ap known_of (number_when_never e) ∙ sym ((is_from base depart label).never e)
    | inr ne ↦
        let is = number_when_reached ne in
        let below : number_of base depart label ≢ NEVER = λ never. omega (arith, is, never, low, early) in
        ap (λ (b : Bool). if b then None else Some (number_of base depart label))
        (ne_eqb (number_of base depart label) NEVER below)
        ∙ (ap Some is ∙ sym ((is_from base depart label).counted ne))
  ]

-- a minute waits for one position
one_position : (searched : List ℕ) (m i j wait other : ℕ) → StandsIn searched m i wait → StandsIn searched m j other →
    i ≡ j
one_position searched m i j wait other one two = elim (cases_lt i j) [
  | inl lt ↦ let sooner = two.first i lt in let up = one.no_earlier in absurd (omega (arith, sooner, up))
  | inr ge ↦ elim (cases_lt j i) [
    | inl lt ↦ let sooner = one.first j lt in let up = two.no_earlier in absurd (omega (arith, sooner, up))
    | inr le ↦ omega (arith, ge, le)
  ]
]

module _ (n : Net) (q : Query) (plan : WindowPlan) (origin : ℕ) (ok : IsNet n) (good : IsNet q.network.now)
    (valid : IsValidQuery q) (is : IsPlanOf q plan) (w : WindowLabels) (labels : AreQueryLabels q plan w)
    (of : IsQueryOf n origin w.numbers.now q) (start : origin < n.stops) where
  abbrev number : ℕ → ℕ
  number p = slice_index w.numbers.now p

  abbrev base_at : ℕ → ℕ
  base_at m = slice_index w.found.bases.now (slice_index plan.positions.now m)

  abbrev label_at : ℕ → ℕ → ℕ
  label_at p m = narrow_at w.found.width w.found.labels.now (number p) (slice_index plan.positions.now m)

  abbrev by_label : ℕ → ℕ → Option ℕ
  by_label p m = of_label (base_at m) (departure plan.window m) (label_at p m)

  abbrev walk_to : ℕ → Option ℕ
  walk_to p = least_walk w.walks.now (number p) (length w.walks.now)

  abbrev entry : ℕ → ℕ → Option ℕ
  entry p m = lesser (by_label p m) (walk_to p)

  abbrev table : DurationTable
  table = record {
    stops = n.stops;
    minutes = plan.window.minutes;
    durations = map (λ (i : ℕ). entry (i / plan.window.minutes) (i % plan.window.minutes))
        (range_with_len 0 (n.stops * plan.window.minutes));
  }

  short_walks : (i : ℕ) → i < length w.walks.now →
      (walk_stop w.walks.now i < q.network.now.stops) × (walk_seconds w.walks.now i < NEVER)
  short_walks i l = near_in_range q.network.now good q.origin.0 (walk_stop w.walks.now i) (walk_seconds w.walks.now i)
      valid.origin (labels.walks.sound i l)

  at_entry : (p m : ℕ) → p < n.stops → m < plan.window.minutes → at table p m ≡ entry p m
  at_entry p m l r =
      get_or-map-range_with_len (λ (i : ℕ). entry (i / plan.window.minutes) (i % plan.window.minutes)) 0
      (n.stops * plan.window.minutes) (p * plan.window.minutes + m) (p * plan.window.minutes + m) None
      (position_before plan.window.minutes p n.stops m l r) (omega arith)
      ∙ (ap (λ (x : ℕ). entry x ((p * plan.window.minutes + m) % plan.window.minutes)) (div-mul-add p plan.window.minutes m r)
      ∙ ap (λ (x : ℕ). entry p x) (mod-mul-add p plan.window.minutes m r))

  -- the entry of a stop and a minute is the least duration
  least_entry : (p m : ℕ) → p < n.stops → m < plan.window.minutes →
      IsLeastOrNone (IsDuration n origin (departure plan.window m) q.rides p) (entry p m)
  least_entry p m l r =
      let within = at_within q plan good valid is w.found.width w.found.labels.now w.found.bases.now labels.told
      (number p) m (let h = of.low p l in omega (arith, h, of.stops)) r in
      let there : number p < q.network.now.stops = (let h = of.low p l in omega (arith, h, of.stops)) in
      let told = labels.told.each (number p) (slice_index plan.positions.now m) there (omega arith) within in
      let since = counted_since q plan good valid is w.found.width w.found.labels.now w.found.bases.now labels.told
      (number p) m there r in
      let early = labels.told.early (slice_index plan.positions.now m) (omega arith) within in
      let fits = told.fits in
      let counted = counted_number (base_at m) (departure plan.window m) (label_at p m) since fits early in
      let known = known_number (base_at m) (departure plan.window m) (label_at p m) since fits early in
      let with_walks = lowered q.network.now q.origin.0 (number p)
      (number_of (base_at m) (departure plan.window m) (label_at p m)) (by_label p m) w.walks.now known labels.walks
      (λ i h. (short_walks i h).1) (walk_to p) (least_is_least w.walks.now (number p) (length w.walks.now)) in
      let least = counted_in q plan good valid is w.found.width w.found.labels.now w.found.bases.now labels.told
      (number p) m there r (number_of (base_at m) (departure plan.window m) (label_at p m)) counted with_walks.value
      with_walks.walked in
      let here = (labels_stay (number_in w.numbers.now) n q.network.now origin (departure plan.window m) q.rides p
      with_walks.value ok of.renumbered start l).1
      (subst (λ (x : ℕ). IsLeastOrNever (IsDuration q.network.now x (departure plan.window m) q.rides (number p))
      with_walks.value) of.start least) in
      subst (λ (o : Option ℕ). IsLeastOrNone (IsDuration n origin (departure plan.window m) q.rides p) o) with_walks.known
      (known_least (IsDuration n origin (departure plan.window m) q.rides p) with_walks.value here)

  pub durations_are : AreDurations n origin plan.window q.rides table
  durations_are =
      record {
        size = record {
          size = length-map-range_with_len
              (λ (i : ℕ). entry (i / plan.window.minutes) (i % plan.window.minutes)) 0 (n.stops * plan.window.minutes);
          few_stops = omega (arith, ok.feet.within.walks.stops, ok.in_range.lists);
          few_minutes = is.fits.few;
        };
        stops = refl;
        minutes = refl;
        each = λ p m l r.
            subst (λ (o : Option ℕ). IsLeastOrNone (IsDuration n origin (departure plan.window m) q.rides p) o)
            (sym (at_entry p m l r)) (least_entry p m l r);
      }

  -- the labels of a stop, side by side
  label_of_stop : (p j : ℕ) → j < length plan.searched.now →
      slice_index (labels_of w (number p)) j ≡ narrow_at w.found.width w.found.labels.now (number p) j
  label_of_stop p j l =
      get_or-chunk {X = ℕ} (number p * w.found.width) (length w.searched.now) w.found.labels.now j 0
      (let e = ap length labels.searched in omega (arith, e, l))

  pub represented : Represent w table
  represented =
      record {
        stops = sym of.size;
        minutes = sym labels.minutes;
        by_label = by_label;
        labels = λ p there. record {
          each = λ m j wait l stands.
              let r : m < plan.window.minutes = (let e = labels.minutes in omega (arith, e, l)) in
              let here : StandsIn plan.searched.now m j wait = rw (← labels.searched) stands in
              let same = one_position plan.searched.now m (slice_index plan.positions.now m) j (slice_index plan.waits.now m) wait
              (is.plan.each m r) here in
              subst (λ (x : ℕ). IsDurationFrom (slice_index w.found.bases.now j) (w.first + 60 * m) x (by_label p m))
              (sym (label_of_stop p j here.within))
              (subst (λ (x : ℕ). IsDurationFrom (slice_index w.found.bases.now j) (x + 60 * m)
              (narrow_at w.found.width w.found.labels.now (number p) j) (by_label p m)) (sym labels.first)
              (subst (λ (x : ℕ). IsDurationFrom (slice_index w.found.bases.now x) (departure plan.window m)
              (narrow_at w.found.width w.found.labels.now (number p) x) (by_label p m)) same
              (is_from (base_at m) (departure plan.window m) (label_at p m))));
        };
        durations = at_entry;
      }

  pub window_labels : AreWindowLabels w
  window_labels =
      let many = ap length labels.searched in
      let long = is.times.count in
      record {
        positions = record {
          plan = rw (labels.searched, labels.minutes) is.plan.are;
          few = (let e = labels.minutes in let few = is.fits.few in omega (arith, e, few));
          axis = (let e = labels.first in let axis = is.fits.on_axis 0 is.fits.some in omega (arith, e, axis));
          too = omega (arith, labels.many, long, many);
          before = λ j l.
              let b = labels.told.before j (omega arith) (omega (arith, l, many, long)) in
              let e = is.times.each j (omega (arith, l, many)) in
              rw (labels.searched, labels.first) (omega (arith, b, e));
          near = λ j l.
              let b = labels.told.near j (omega arith) (omega (arith, l, many, long)) in
              let e = is.times.each j (omega (arith, l, many)) in
              rw (labels.searched, labels.first) (omega (arith, b, e));
        };
        width = (let wide = labels.wide in omega (arith, wide, many, long));
        space = subst (λ (x : ℕ). (x + 15) * w.found.width + 8 ≤ length w.found.labels.now) (of.stops ∙ sym of.size)
            labels.space;
        few = omega (arith, of.size, ok.feet.within.walks.stops, ok.in_range.lists);
        numbers = λ p l. (let h = of.low p (omega (arith, l, of.size)) in omega (arith, h, of.size));
        walks = λ i l. (let h = (short_walks i l).0 in omega (arith, h, of.stops, of.size));
        seconds = λ i l. (short_walks i l).1;
        since = λ p l. record {
          since = λ j r reached.
              let within : j < length plan.searched.now = omega (arith, r, many) in
              let there : number p < q.network.now.stops =
              (let h = of.low p (omega (arith, l, of.size)) in omega (arith, h, of.stops)) in
              let told = labels.told.each (number p) j there (omega arith) (omega (arith, within, long)) in
              let departs = is.times.each j within in
              let label = label_of_stop p j within in
              let after = told.after (λ never. reached (label ∙ never)) in
              let first = labels.first in
              let at = ap (λ (xs : List ℕ). slice_index xs j) labels.searched in
              omega (arith, after, label, first, at, departs);
        };
      }

  pub labels_are : AreLabelsOf n origin plan.window q.rides w
  labels_are =
      record {
        are = window_labels;
        table = table;
        durations = durations_are;
        represent = represented;
      }

-- so do labels that a query found
pub labels_of_query : {q : Query} {plan : WindowPlan} (w : WindowLabels) → AreQueryLabels q plan w → (n : Net)
    (origin : ℕ) → IsNet n → IsNet q.network.now → IsValidQuery q → IsPlanOf q plan →
    (numbers : List ℕ) → w.numbers.now ≡ numbers → IsQueryOf n origin numbers q → origin < n.stops →
    AreLabelsOf n origin plan.window q.rides w
labels_of_query {q} {plan} w labels n origin ok good valid is numbers same of start =
    labels_are n q plan origin ok good valid is w labels
    (subst (λ (ns : List ℕ). IsQueryOf n origin ns q) (sym same) of) start

-- labels represent each table of the least durations
pub labels_represent : LabelsRepresentDurations
labels_represent n origin w k labels t is durations =
    subst (λ (x : DurationTable). Represent labels x) (durations_unique n origin w k is.table t is.durations durations)
    is.represent
