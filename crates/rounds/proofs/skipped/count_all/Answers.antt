use Rattle.std.proofs.Common.{◌≡◌, ℕ, ◌*◌, ◌<◌, ◌≤◌, inl, inr, List, length, take}
use Rattle.std.proofs.Common.{ap, ◌∙◌, arith}
use Rattle.std.proofs.lemmas.Bool.{cases_lt}
use Rattle.std.proofs.lemmas.List.{get_or_default, length-take}
use Rattle.useful_minutes.proofs.SearchedMinutes.{plan_steps}
use Rattle.timetable.specs.declared.least.TheConstants.{NEVER}
use Rattle.rounds.specs.declared.query.Query.{Query}
use Rattle.rounds.specs.Arrivals.{AreAllTold, AreToldFrom}
use Rattle.rounds.specs.Table.{batches_of, label_of}
use Rattle.rounds.proofs.BoundedStops.{written}
use Rattle.rounds.proofs.CountedMinutes.{counted_since, counted_in, counted_whole, taken}
use Rattle.rounds.proofs.skipped.count_all.Goals as goal
use Rattle.rounds.proofs.skipped.count_all.Goals.{then-searched-minutes, else-searched-minutes}

pub count_durations-requires-clause-chunks : goal.count_durations-requires-clause-chunks
count_durations-requires-clause-chunks c = (batches_of c.args.plan.window.minutes, c.requires.plan.plan.long)

pub count_durations-requires-clause-steps : goal.count_durations-requires-clause-steps
count_durations-requires-clause-steps c = plan_steps _ _ _ _ _ c.requires.plan.plan

pub count_durations-requires-clause-positions : goal.count_durations-requires-clause-positions
count_durations-requires-clause-positions c k d l =
    let q = c.args.query in
    let plan = c.requires.plan.plan in
    let long = c.requires.plan.times.count in
    let wide = c.requires.told.wide in
    let same = get_or_default c.args.plan.positions.now k d 0 l in
    elim (cases_lt k c.args.plan.window.minutes) [
      | inl lt ↦ let s = (plan.each k lt).within in omega (arith, same, s, wide, long)
      | inr ge ↦ let s = plan.past k ge (omega (arith, l, plan.long)) in omega (arith, same, s, wide, long)
    ]

pub count_durations-requires-clause-room : goal.count_durations-requires-clause-room
count_durations-requires-clause-room c =
    let places = c.requires.told.room.places in
    let long = ap length c.as_slice.ensures.value in
    let stops = ap (λ (x : ℕ). x * c.args.found.now.width) c.stops-stops.ensures in
    omega (arith, places, long, stops)

-- what the labels and bases tell that are handed on
handed : (q : Query) (width : ℕ) (labels bases found from : List ℕ) → labels ≡ found → bases ≡ from →
    AreAllTold q width found from → AreToldFrom q width labels (take (length q.times.now) bases) 0
handed q width labels bases found from same_labels same_bases told =
    rw (same_labels, same_bases) (taken q width found from told.told)

pub count_durations-requires-clause-bases : goal.count_durations-requires-clause-bases
count_durations-requires-clause-bases c k d l =
    let q = c.args.query in
    let bases = take (length q.times.now) c.as_slice-bases.result.now in
    let told = handed q c.args.found.now.width c.as_slice.result.now c.as_slice-bases.result.now
    c.args.found.now.labels.items c.args.found.now.bases.items c.as_slice.ensures.value
    c.as_slice-bases.ensures.value c.requires.told in
    let same = get_or_default bases k d 0 l in
    let few = length-take (length q.times.now) c.as_slice-bases.result.now in
    let early = told.early k (omega arith) (omega (arith, l, few)) in
    omega (arith, same, early)

pub count_durations-requires-clause-since : goal.count_durations-requires-clause-since
count_durations-requires-clause-since c p m there l =
    let q = c.args.query in
    let told = handed q c.args.found.now.width c.as_slice.result.now c.as_slice-bases.result.now
    c.args.found.now.labels.items c.args.found.now.bases.items c.as_slice.ensures.value
    c.as_slice-bases.ensures.value c.requires.told in
    counted_since q c.args.plan c.known.ensures c.requires.query c.requires.plan c.args.found.now.width
    c.as_slice.result.now
    (take (length q.times.now) c.as_slice-bases.result.now) told p m (omega (arith, there, c.stops-stops.ensures)) l

pub returns : goal.returns
returns c =
    let q = c.args.query in
    let w = c.args.plan.window in
    let n = q.network.now in
    let plan = c.requires.plan.plan in
    let chunks = batches_of w.minutes in
    let counted = c.in_ok-labels.ensures in
    let bases = take (length q.times.now) c.as_slice-bases.result.now in
    let stops = c.stops-stops.ensures in
    let told = handed q c.args.found.now.width c.as_slice.result.now c.as_slice-bases.result.now
    c.args.found.now.labels.items c.args.found.now.bases.items c.as_slice.ensures.value
    c.as_slice-bases.ensures.value c.requires.told in
    let size : length c.in_ok-labels.labels.items ≡ n.stops * chunks =
    counted.size chunks plan.long ∙ ap (λ (x : ℕ). x * chunks) stops in
    let past : (p m : ℕ) → p < n.stops → w.minutes ≤ m → m < 16 * chunks →
    label_of w.minutes c.in_ok-labels.labels.items p m ≡ NEVER =
    λ p m there past l. counted.past chunks p m plan.long (omega (arith, there, stops)) past
    (omega (arith, l, plan.long))
    in
    elim c.if-searched-minutes.branch [
      | then-searched-minutes v ↦
          let walked = v.walk_alone.ensures in
          let same = v.deref_mut.ensures.value in
          let long : length v.walk_alone.new.labels ≡ n.stops * chunks = walked.same ∙ (ap length same ∙ size) in
          let is_new = written c.in_ok-labels.labels v.walk_alone.new.labels size same v.deref_mut.ensures.len long in
          rw (v.labels-is, is_new) (record {
            size = long;
            each = λ p m there l.
                counted_in q c.args.plan c.known.ensures c.requires.query c.requires.plan c.args.found.now.width
                c.as_slice.result.now bases told p m there l
                (label_of w.minutes c.in_ok-labels.labels.items p m)
                (counted.counted chunks p m plan.long (omega (arith, there, stops)) l)
                (label_of w.minutes v.walk_alone.new.labels p m) (rw same at (walked.walked p m there l));
            unused = λ p m there late l. rw same at (walked.kept p m there late l) ∙ past p m there late l;
          })
      | else-searched-minutes v ↦ rw v.labels-is (record {
        size = size;
        each = λ p m there l.
            counted_whole q c.args.plan c.known.ensures c.requires.query c.requires.plan c.args.found.now.width
            c.as_slice.result.now bases told p m there l
            (label_of w.minutes c.in_ok-labels.labels.items p m)
            (counted.counted chunks p m plan.long (omega (arith, there, stops)) l) v.if-searched-minutes.false;
        unused = past;
      })
    ]
