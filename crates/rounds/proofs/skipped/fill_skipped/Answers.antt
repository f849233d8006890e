use Rattle.std.proofs.Common.{◌≡◌, ℕ, ◌-◌, ◌*◌, ◌<◌, inl, inr, length, slice_index, sym, ◌∙◌, ap, subst, arith}
use Rattle.std.proofs.lemmas.Bool.{cases_lt}
use Rattle.std.proofs.lemmas.List.{get_or_default}
use Rattle.timetable.specs.Least.{IsLeastOrNever}
use Rattle.timetable.specs.Journeys.{IsDuration}
use Rattle.useful_minutes.proofs.SearchedMinutes.{few_searched, plan_steps, searched_whole}
use Rattle.rounds.specs.Table.{batches_of, label_of}
use Rattle.rounds.specs.Window.{departure}
use Rattle.rounds.proofs.SkippedDepartures.{filled_in}
use Rattle.rounds.proofs.skipped.fill_skipped.Goals as goal

pub fill_in-requires-clause-chunks : goal.fill_in-requires-clause-chunks
fill_in-requires-clause-chunks c = (
  batches_of c.args.plan.window.minutes,
  c.requires.plan.plan.long,
  c.requires.packed.size ∙ ap (λ (x : ℕ). x * batches_of c.args.plan.window.minutes) (sym c.stops-stops.ensures),
)

pub fill_in-requires-clause-waits : goal.fill_in-requires-clause-waits
fill_in-requires-clause-waits c = c.requires.plan.plan.too ∙ sym c.requires.plan.plan.long

pub fill_in-requires-clause-steps : goal.fill_in-requires-clause-steps
fill_in-requires-clause-steps c = plan_steps _ _ _ _ _ c.requires.plan.plan

pub fill_in-requires-clause-within : goal.fill_in-requires-clause-within
fill_in-requires-clause-within c k d l =
    let q = c.args.query in
    let plan = c.requires.plan.plan in
    let same = get_or_default c.args.plan.positions.now k d 0 l in
    elim (cases_lt k c.args.plan.window.minutes) [
      | inl lt ↦ let s = (plan.each k lt).within in omega (arith, same, s)
      | inr ge ↦ let s = plan.past k ge (omega (arith, l, plan.long)) in omega (arith, same, s)
    ]

pub fill_in-requires-clause-few : goal.fill_in-requires-clause-few
fill_in-requires-clause-few c =
    let few = few_searched c.args.plan.window.minutes c.args.plan.searched.now c.requires.plan.plan.are in
    let other = c.if-searched-minutes.false in
    omega (arith, few, other, c.requires.plan.plan.long)

pub returns : goal.returns
returns c =
    let q = c.args.query in
    let n = q.network.now in
    let w = c.args.plan.window in
    let plan = c.requires.plan.plan in
    let times = c.requires.plan.times in
    let packed = c.requires.packed in
    let positions = c.args.plan.positions.now in
    let searched = c.args.plan.searched.now in
    let chunks = batches_of w.minutes in
    let room = plan.long in
    let filled = c.in_ok-fill_in.ensures in
    let walked = c.walk_alone.ensures in
    let stops : c.stops-stops.result ≡ n.stops = c.stops-stops.ensures in
    let few = few_searched w.minutes searched plan.are in
    record {
      size = walked.same ∙ (filled.same ∙ packed.size);
      each = λ p m there l.
          let s = plan.each m l in
          let j = slice_index positions m in
          let label = filled.filled chunks p m room (omega (arith, there, stops)) (omega (arith, l, room)) in
          let wait : slice_index c.args.plan.waits.now m ≡ departure w (slice_index searched j) - departure w m =
          let waits = s.waits in let up = s.no_earlier in omega (arith, waits, up) in
          let up = s.no_earlier in
          let within : j < length q.times.now = let w = s.within in let count = times.count in omega (arith, w, count) in
          let least = subst (λ (t : ℕ). IsLeastOrNever (IsDuration n q.origin.0 t q.rides p)
          (label_of w.minutes c.args.labels.now p j)) (times.each j s.within) (packed.each p j there within) in
          filled_in n q.origin.0 (departure w m) (departure w (slice_index searched j)) (omega (arith, up))
          (c.requires.plan.skips m l) c.known.ensures c.requires.query.origin
          (c.requires.plan.fits.on_axis (slice_index searched j) (plan.are.within j s.within)) q.rides p
          (label_of w.minutes c.args.labels.now p j) (slice_index c.args.plan.waits.now m)
          (label_of w.minutes c.fill_in.new.labels p m) (label_of w.minutes c.walk_alone.new.labels p m)
          least wait label (walked.walked p m there l);
      unused = λ p m there past l.
          let kept = walked.kept p m there past l in
          let label = filled.filled chunks p m room (omega (arith, there, stops)) (omega (arith, l, room)) in
          let after = plan.past m past l in
          let none = packed.unused p (length searched) there (let count = times.count in omega (arith, count))
          (omega (arith, few, past, l)) in
          let same = ap (λ (x : ℕ). label_of w.minutes c.args.labels.now p x) after in
          omega (arith, kept, label, same, none);
    }

-- nothing is to fill in where each minute was searched
pub returns-then-searched-minutes : goal.returns-then-searched-minutes
returns-then-searched-minutes c =
    let q = c.args.query in
    let w = c.args.plan.window in
    let packed = c.requires.packed in
    let times = c.requires.plan.times in
    let count = times.count in
    let many = c.if-searched-minutes.true in
    record {
      size = packed.size;
      each = λ p m there l.
          let same = searched_whole w.minutes c.args.plan.searched.now c.requires.plan.plan.are (omega (arith, many)) m l in
          let departs = times.each m (omega (arith, many, l)) in
          subst (λ (t : ℕ). IsLeastOrNever (IsDuration q.network.now q.origin.0 t q.rides p)
          (label_of w.minutes c.args.labels.now p m)) (departs ∙ ap (departure w) same)
          (packed.each p m there (omega (arith, many, l, count)));
      unused = λ p m there past l. packed.unused p m there (omega (arith, many, past, count)) l;
    }
