use Rattle.std.proofs.Common.{rules, ◌≡◌, ◌<◌, ◌∙◌, ℕ, List, ap, length, refl, slice_index, sym, subst, arith}
use Rattle.rounds.specs.Batches.{AreWindowDurations}
use Rattle.rounds.specs.Table.{DurationTable, AreLanes, table_of}
use Rattle.rounds.specs.Window.{AreDurations, Fits}
use Rattle.rounds.specs.declared.window.Window.{Window}
use Rattle.timetable.specs.Networks.{IsNet, Net}
use Rattle.rounds.proofs.LabelsAsDurations.{filled}
use Rattle.rounds.proofs.search.durations_by_stop.Goals as goal

-- the labels of a network of as many stops, and numbers of these
are_lanes : (n m : Net) (origin : ℕ) (w : Window) (k : ℕ) (numbers copy : List ℕ) (labels : List (List ℕ)) → IsNet n →
    Fits w → m.stops ≡ n.stops → copy ≡ numbers → length numbers ≡ n.stops →
    ((p : ℕ) → p < n.stops → slice_index numbers p < n.stops) → AreWindowDurations m origin w k labels →
    AreLanes n.stops w.minutes copy labels
are_lanes n m origin w k numbers copy labels ok fits same copied size low is =
    record {
      size = rw (← same) is.size;
      dead = rw (← same) is.unused;
      count = ap length copied ∙ size;
      low = rw copied low;
      few_stops = omega (arith, ok.feet.within.walks.stops, ok.in_range.lists);
      few_minutes = fits.few;
    }

pub new-requires : goal.new-requires
new-requires c =
    let q = c.args.query in
    let numbers = c.args.plan.numbers.now in
    let copied : c.in_ok-numbers.numbers.items ≡ numbers =
    c.in_ok-numbers.ensures.items_if_clones_equal (λ y h. search rules) in
    let r = c.requires.query in
    subst (λ (k : ℕ). AreLanes k c.args.plan.window.minutes c.in_ok-numbers.numbers.items c.args.durations.items)
    (sym c.stops.ensures)
    (are_lanes c.args.network.now q.network.now q.origin.0 c.args.plan.window q.rides numbers c.in_ok-numbers.numbers.items
    c.args.durations.items c.known.ensures c.requires.fits r.stops copied r.size r.low c.requires.durations)

pub returns : goal.returns
returns c =
    let q = c.args.query in
    let n = c.args.network.now in
    let m = q.network.now in
    let numbers = c.args.plan.numbers.now in
    let labels = c.args.durations.items in
    let copied : c.in_ok-numbers.numbers.items ≡ numbers =
    c.in_ok-numbers.ensures.items_if_clones_equal (λ y h. search rules) in
    let r = c.requires.query in
    let are = are_lanes n m q.origin.0 c.args.plan.window q.rides numbers numbers labels c.known.ensures c.requires.fits r.stops
    refl r.size r.low c.requires.durations in
    let done = filled n m c.args.origin.0 c.args.plan.window q.rides numbers labels c.known.ensures r.renumbered
    c.requires.origin r.stops are
    (subst (λ (x : ℕ). AreWindowDurations m x c.args.plan.window q.rides labels) r.start c.requires.durations) in
    let same : c.new.result ≡ table_of n.stops c.args.plan.window.minutes numbers labels =
    c.new.ensures
    ∙ (ap (λ (k : ℕ). table_of k c.args.plan.window.minutes c.in_ok-numbers.numbers.items labels) c.stops.ensures
    ∙ ap (λ (ns : List ℕ). table_of n.stops c.args.plan.window.minutes ns labels) copied) in
    subst (λ (t : DurationTable). AreDurations n c.args.origin.0 c.args.plan.window q.rides t) (sym same) done
