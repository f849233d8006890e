-- The departures in the searched minutes of a window, and the plan of a query.
use Rattle.std.proofs.Common.{◌≡◌, ℕ, ◌+◌, ◌*◌, ◌<◌, ◌≤◌, List, length, slice_index, arith}
use Rattle.useful_minutes.specs.Plan.{AreMinutes, IsPlan, SkipsNothing}
use Rattle.rounds.specs.declared.query.Query.{Query}
use Rattle.rounds.specs.declared.skipped.WindowPlan.{WindowPlan}
use Rattle.rounds.specs.declared.window.Window.{Window}
use Rattle.rounds.specs.Query.{AreDepartures}
use Rattle.rounds.specs.Skipped.{AreTimesOf, IsPlanOf}
use Rattle.rounds.specs.Table.{batches_of}
use Rattle.rounds.specs.Window.{departure, Fits}

-- the departures in the searched minutes of a window are in order
pub in_order : (w : Window) (searched times : List ℕ) → Fits w → AreMinutes w.minutes searched →
    AreTimesOf w searched times → AreDepartures times
in_order w searched times fits are of =
    let long = of.count in
    record {
      some = let some = are.some in omega (arith, some, long);
      ascend = λ j h.
          let here = of.each j (omega (arith, h, long)) in
          let next = of.each (j + 1) (omega (arith, h, long)) in
          let up = are.ascends j (omega (arith, h, long)) in
          omega (arith, here, next, up);
      on_axis = λ j h.
          let l : j < length searched = omega (arith, h, long) in
          let here = of.each j l in
          let axis = fits.on_axis (slice_index searched j) (are.within j l) in
          omega (arith, here, axis);
    }

-- times up to the last searched minute are all of them
pub times_are : (w : Window) (searched times : List ℕ) (j : ℕ) → length times ≡ j → length searched ≤ j →
    j ≤ length searched →
    ((i : ℕ) → i < j → slice_index times i ≡ departure w (slice_index searched i)) → AreTimesOf w searched times
times_are w searched times j count many few each =
    record {
      count = omega (arith, count, many, few);
      each = λ i l. each i (omega (arith, l, many));
    }

-- a query and a plan whose lists are these
pub planned : {q : Query} {p : WindowPlan} (w : Window) (minutes positions waits times : List ℕ) → p.window ≡ w →
    p.searched.now ≡ minutes → p.positions.now ≡ positions → p.waits.now ≡ waits → q.times.now ≡ times → Fits w →
    IsPlan w.minutes (16 * batches_of w.minutes) minutes positions waits →
    SkipsNothing q.network.now q.origin.0 w.first w.minutes minutes positions → AreTimesOf w minutes times →
    IsPlanOf q p
planned w minutes positions waits times window searched placed waited departs fits plan skips of =
    record {
      fits = rw window fits;
      plan = rw (window, searched, placed, waited) plan;
      skips = rw (window, searched, placed) skips;
      times = rw (window, searched, departs) of;
    }
