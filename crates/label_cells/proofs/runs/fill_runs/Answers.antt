use Rattle.std.proofs.Common.{◌≡◌, ◌≤◌, ◌<◌, ◌+◌, ◌*◌, ◌-◌, ◌++◌, ◌∷◌, [], ℕ, Bool, List, Option, Vec, Global, length}
use Rattle.std.proofs.Common.{slice_index, ap, sym, subst, ◌∙◌, arith}
use Rattle.rounds.specs.Labels.{AreLabelDurations, ArePositions, AreSince}
use Rattle.label_cells.specs.Runs.{IsRun, AreEnds}
use Rattle.label_cells.specs.Sums.{sum_to}
use Rattle.label_cells.proofs.RunsOfPositions.{IsLeft, AreBegun, left_few, left_end, left_on, left_last, run_here}
use Rattle.label_cells.proofs.RunsOfPositions.{begun_end, begun_on}
use Rattle.label_cells.specs.declared.runs.Run.{Run}
use Rattle.label_cells.specs.GroupLanes.{lane_of, shortest_at, span_in}
use Rattle.label_cells.proofs.LanesOfGroups.{length-lane, lane_at, are_labels, nevers, never_labels, never_ends}
use Rattle.label_cells.proofs.ListsOfRuns.{longer, same_shortest, same_span, new_shortest, new_span, span_more}
use Rattle.label_cells.proofs.ListsOfRuns.{fits_more}
use Rattle.label_cells.proofs.runs.fill_runs.Goals as goal
use Rattle.label_cells.proofs.runs.fill_runs.Goals.{then-ends-j+in_ok-push, else-ends-j}

pub bounds-ends-j : goal.bounds-ends-j
bounds-ends-j c =
    let long = length-lane c.args.window.found.labels.now c.args.from c.args.window.found.width (length
    c.args.window.searched.now) 0 c.requires.space
    c.requires.width (omega arith) in
    let size = (c.requires.ends 0 (omega arith)).long in
    omega (arith, long, size)

pub overflow_sub-upto : goal.overflow_sub-upto
overflow_sub-upto c =
    let searched = c.args.window.searched.now in
    let bases = c.args.window.found.bases.now in
    let k = length searched in
    let are = never_labels bases searched c.args.window.first c.args.window.minutes c.requires.positions in
    let long = length-lane c.args.window.found.labels.now c.args.from c.args.window.found.width (length searched) 0
    c.requires.space
    c.requires.width (omega arith) in
    let mark = never_ends (lane_of c.args.window.found.labels.now c.args.from c.args.window.found.width (length
    searched) 0) bases c.args.ends.now
    (length searched) long (c.requires.ends 0 (omega arith)) in
    let low = left_few (nevers (length searched)) bases searched c.args.window.first c.args.window.minutes
    c.args.ends.now are mark
    c.loop-j.j c.loop-j.was c.loop-j-test.true c.loop-j.invariant.left in
    omega (arith, low)

-- the invariant
abbrev Preserved : List ℕ → ℕ → ℕ → List ℕ → List ℕ → ℕ → ℕ → List Bool → ℕ → ℕ → List Run → Type 0
Preserved found from width bases searched first minutes ends j was runs = record {
  all : sum_to (span_in runs) (length runs) ≡ was;
  few : length runs ≤ was;
  fits : (l i : ℕ) → l < 16 → i < length runs → shortest_at runs l i ≤ 65535;
  left : IsLeft searched ends j was;
  begun : (l : ℕ) (ds : ℕ → Option ℕ) → l < 16 → AreSince (lane_of found from width (length searched) l) bases
      searched first →
      AreLabelDurations (lane_of found from width (length searched) l) bases searched first minutes ds →
      AreBegun (lane_of found from width (length searched) l) bases searched first ds j was (shortest_at runs l)
      (span_in runs) (length runs);
}

pub loop-j-preserved : goal.loop-j-preserved
loop-j-preserved c =
    let found = c.args.window.found.labels.now in
    let from = c.args.from in
    let width = c.args.window.found.width in
    let bases = c.args.window.found.bases.now in
    let searched = c.args.window.searched.now in
    let first = c.args.window.first in
    let minutes = c.args.window.minutes in
    let ends = c.args.ends.now in
    let k = length searched in
    let lane : ℕ → List ℕ = λ l. lane_of found from width (length searched) l in
    let long : (l : ℕ) → l < 16 → length (lane l) ≡ length searched =
    λ l h. length-lane found from width (length searched) l c.requires.space c.requires.width h in
    let are = never_labels bases searched first minutes c.requires.positions in
    let mark = never_ends (lane 0) bases ends (length searched) (long 0 (omega arith)) (c.requires.ends 0 (omega
    arith)) in
    let j = c.loop-j.j in
    let was = c.loop-j.was in
    let runs = c.loop-j.runs.items in
    let old = c.loop-j.invariant in
    let here = c.loop-j-test.true in
    let low = left_few (nevers (length searched)) bases searched first minutes ends are mark j was here old.left in
    elim c.if-ends-j.branch [
      | then-ends-j+in_ok-push w ↦
          let shortest = w.shortest_of-shortest.result in
          let span : ℕ = slice_index searched j + 1 - was in
          let run : Run = record { shortest = shortest; span = span } in
          let pushed : runs ++ run ∷ [] ≡ c.if-ends-j.runs.items =
          sym (ap (λ (v : Vec Run Global). v.items) w.runs-is ∙ w.in_ok-push.ensures.items) in
          let end : slice_index searched j + 1 ≡ c.if-ends-j.was = sym w.was-is in
          let more = span_more runs run in
          let before = old.all in
          let fewer = old.few in
          let one_longer = longer runs run in
          let begun : (l : ℕ) (ds : ℕ → Option ℕ) → l < 16 → AreSince (lane l) bases searched first →
          AreLabelDurations (lane l) bases searched first minutes ds →
          AreBegun (lane l) bases searched first ds (j + 1) (slice_index searched j + 1) (shortest_at (runs ++ run ∷
          []) l)
          (span_in (runs ++ run ∷ [])) (length (runs ++ run ∷ [])) = λ l ds h since counted.
          let are_lane = are_labels (lane l) bases searched first minutes c.requires.positions (long l h) since in
          let mark_lane = c.requires.ends l h in
          let label : slice_index w.column-labels.result l ≡ slice_index (lane l) j =
          w.column-labels.ensures.labels l h
          ∙ sym (lane_at found from width (length searched) l c.requires.space c.requires.width h j here) in
          let fits : slice_index (lane l) j ≤ 65535 =
          (let f = w.column-labels.ensures.fits l h in omega (arith, f, label)) in
          let base = are_lane.before j here in
          let one : IsRun ds was (slice_index shortest l) span = run_here (lane l) bases searched first minutes ends
          are_lane mark_lane ds counted j was (slice_index shortest l) (length runs) (shortest_at runs l) (span_in
          runs) here
          (old.begun l ds h since counted) low (λ e. w.shortest_of-shortest.ensures.never l h (label ∙ e)) (λ ne.
          let since_here = are_lane.since j here ne in
          let sum = w.shortest_of-shortest.ensures.counted l h (λ e. ne (sym label ∙ e)) (omega (
            arith,
            since_here,
            base,
            label,
          )) in
          omega (arith, sum, since_here, base, label)) fits in
          let new : IsRun ds was (shortest_at (runs ++ run ∷ []) l (length runs)) (span_in (runs ++ run ∷ []) (length
          runs)) =
          subst (λ (x : ℕ). IsRun ds was x (span_in (runs ++ run ∷ []) (length runs))) (sym (new_shortest runs run l))
          (subst (λ (s : ℕ). IsRun ds was (slice_index shortest l) s) (sym (new_span runs run)) one) in
          subst (λ (n : ℕ). AreBegun (lane l) bases searched first ds (j + 1) (slice_index searched j + 1)
          (shortest_at (runs ++ run ∷ []) l) (span_in (runs ++ run ∷ [])) n) (sym (longer runs run))
          (begun_end (lane l) bases searched first minutes ends are_lane mark_lane ds counted j was (length runs)
          (shortest_at runs l) (span_in runs) (shortest_at (runs ++ run ∷ []) l) (span_in (runs ++ run ∷ [])) old.all
          (old.begun l ds h since counted) (same_shortest runs run l) (same_span runs run) new) in
          subst (λ (x : ℕ). Preserved found from width bases searched first minutes ends (j + 1) x
          c.if-ends-j.runs.items)
          end
          (subst (λ (rs : List Run). Preserved found from width bases searched first minutes ends (j + 1)
          (slice_index searched j + 1) rs) pushed (record {
            all = omega (arith, more, before, low);
            few = omega (arith, one_longer, fewer, low);
            fits = fits_more runs run old.fits (λ l h. w.shortest_of-shortest.ensures.fits l h);
            left = left_end (nevers (length searched)) bases searched first minutes ends are mark j;
            begun = begun;
          }))
      | else-ends-j w ↦ rw (w.runs-is, w.was-is) (record {
        all = old.all;
        few = old.few;
        fits = old.fits;
        left = left_on (nevers (length searched)) bases searched first minutes ends are mark j was here
            w.if-ends-j.false old.left;
        begun = λ l ds h since counted. begun_on (lane l) bases searched first minutes ends
            (are_labels (lane l) bases searched first minutes c.requires.positions (long l h) since)
            (c.requires.ends l h) ds counted j was (length runs) (shortest_at runs l) (span_in runs) here
            w.if-ends-j.false (old.begun l ds h since counted);
      })
    ]

all_minutes : (found bases searched : List ℕ) (from width first minutes j was : ℕ) (ends : List Bool) →
    ArePositions bases searched first minutes → from + 16 * width ≤ length found → length searched ≤ width →
    ((l : ℕ) → l < 16 → AreEnds (lane_of found from width (length searched) l) bases ends) →
    length searched ≤ j → j ≤ length searched → IsLeft searched ends j was → was ≡ minutes
all_minutes found bases searched from width first minutes j was ends positions room fits marks up low left =
    left_last (nevers (length searched)) bases searched first minutes ends
    (never_labels bases searched first minutes positions)
    (never_ends (lane_of found from width (length searched) 0) bases ends (length searched)
    (length-lane found from width (length searched) 0 room fits (omega arith)) (marks 0 (omega arith))) j was up low
    left

pub returns-clause-all : goal.returns-clause-all
returns-clause-all c = c.loop-j.invariant.all
    ∙ all_minutes c.args.window.found.labels.now c.args.window.found.bases.now c.args.window.searched.now c.args.from
    c.args.window.found.width c.args.window.first
    c.args.window.minutes c.loop-j.j c.loop-j.was c.args.ends.now c.requires.positions c.requires.space c.requires.width
    c.requires.ends c.loop-j-test.false c.loop-j.auto.j-end c.loop-j.invariant.left

pub returns-clause-few : goal.returns-clause-few
returns-clause-few c =
    let few = c.loop-j.invariant.few in
    let all = all_minutes c.args.window.found.labels.now c.args.window.found.bases.now c.args.window.searched.now
    c.args.from c.args.window.found.width c.args.window.first
    c.args.window.minutes c.loop-j.j c.loop-j.was c.args.ends.now c.requires.positions c.requires.space c.requires.width
    c.requires.ends c.loop-j-test.false c.loop-j.auto.j-end c.loop-j.invariant.left in
    omega (arith, few, all)

pub returns-clause-runs : goal.returns-clause-runs
returns-clause-runs c l ds h since counted = record {
  each = (c.loop-j.invariant.begun l ds h since counted).each;
  all = c.loop-j.invariant.all
      ∙ all_minutes c.args.window.found.labels.now c.args.window.found.bases.now c.args.window.searched.now
      c.args.from c.args.window.found.width c.args.window.first
      c.args.window.minutes c.loop-j.j c.loop-j.was c.args.ends.now c.requires.positions c.requires.space
      c.requires.width
      c.requires.ends c.loop-j-test.false c.loop-j.auto.j-end c.loop-j.invariant.left;
}
