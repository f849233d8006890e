use Rattle.std.proofs.Common.{true, false, ◌≡◌, ◌<◌, ℕ, inl, inr, List, length, get_or, set, slice_get}
use Rattle.std.proofs.Common.{slice_index, Some, arith, sym, ◌∙◌, ap, subst}
use Rattle.std.proofs.lemmas.Bool.{cases_lt, cases_Bool, false≢true}
use Rattle.std.proofs.lemmas.List.{get_or-set_same, get_or-set_other, length-set}
use Rattle.std.proofs.lemmas.Option.{same_Some, slice_get_within, get_or_from_slice_get, slice_get-get_or}
use Rattle.timetable.specs.FlatLists.{IsIn}
use Rattle.timetable.specs.declared.least.TheConstants.{NEVER}
use Rattle.trip_lanes.proofs.LoweredStop.{row_lane}
use Rattle.trip_lanes.specs.Falls.{HasFallen}
use Rattle.trip_lanes.specs.declared.falls.Fall.{Fall}
use Rattle.rounds.proofs.due.note_falls.Goals as goal
use Rattle.rounds.proofs.due.note_falls.Goals.{then-fallen-stop, else-fallen-stop}

-- what was written of one stop leaves the others
stays : (falls : List Fall) (s p : ℕ) (g f : Fall) → p < s → slice_get (set falls s g) p ≡ Some f →
    slice_get falls p ≡ Some f
stays falls s p g f lt at =
    let inside = slice_get_within (set falls s g) p f at in
    let read = get_or_from_slice_get (set falls s g) p f f at in
    slice_get-get_or falls p f (omega (arith, length-set falls s g))
    ∙ ap Some (sym (get_or-set_other falls s p g f (λ e. omega arith)) ∙ read)

pub loop-stop-preserved : goal.loop-stop-preserved
loop-stop-preserved g c =
    let s = c.loop-stop.stop in
    let before = c.args.before.now in
    let ready = c.args.ready.now in
    let falls = c.loop-stop.falls in
    let labels = g.R.LaneLabels.labels in
    let within : s < length falls = omega arith in
    record {
      falls = λ l p f h below at on. elim c.if-fallen-stop.branch [
        | then-fallen-stop w ↦
            let at' = rw w.falls-is at at in
            let was = w.index-before-stop.result in
            let now = w.index-ready-stop.result in
            let fall = w.fall.result in
            elim (cases_lt p s) [
              | inl lt ↦ c.loop-stop.invariant.falls l p f h lt (stays falls s p fall f lt at') on
              | inr ge ↦
                  let e : p ≡ s = omega arith in
                  let read : get_or (set falls s fall) p f ≡ f = get_or_from_slice_get (set falls s fall) p f f at' in
                  let here : fall ≡ f = sym (get_or-set_same falls s fall f within)
                  ∙ (ap (λ (i : ℕ). get_or (set falls s fall) i f) (sym e) ∙ read) in
                  rw (
                    e,
                    row_lane labels before s l was was w.index-before-stop.is (omega arith),
                    row_lane labels ready s l now now w.index-ready-stop.is (omega arith),
                  )
                  (subst (λ (g : Fall). HasFallen (slice_index (labels was) l) (slice_index (labels now) l) g) here
                  (w.fall.ensures l h))
            ]
        | else-fallen-stop w ↦ elim (cases_lt p s) [
          | inl lt ↦ c.loop-stop.invariant.falls l p f h lt (stays falls s p _ f lt (rw w.falls-is at at)) on
          | inr ge ↦
              let e : p ≡ s = omega arith in
              absurd (false≢true (sym w.if-fallen-stop.false
              ∙ get_or_from_slice_get c.args.fallen.now s true false (rw e at on)))
        ]
      ];
      due = λ p line position f below b at fell. elim c.if-fallen-stop.branch [
        | then-fallen-stop w ↦ elim (cases_lt p s) [
          | inl lt ↦
              let before = stays falls s p w.fall.result f lt (rw w.falls-is at at) in
              let already = c.loop-stop.invariant.due p line position f lt b before fell in
              rw w.due-is (let low = w.note_all.ensures.earlier line in omega (arith, already))
          | inr ge ↦
              let e : p ≡ s = omega arith in
              let b' : IsIn c.args.lines.now.boarded s (line, position) = rw e at b in
              let row : b'.0 ≡ w.boarded_at.result.now =
              same_Some b'.0 w.boarded_at.result.now (sym b'.2 ∙ w.boarded_at.ensures) in
              rw w.due-is (w.note_all.ensures.new b'.1 line position (rw row at b'.3))
        ]
        | else-fallen-stop w ↦ elim (cases_lt p s) [
          | inl lt ↦
              let before = stays falls s p _ f lt (rw w.falls-is at at) in
              rw w.due-is (c.loop-stop.invariant.due p line position f lt b before fell)
          | inr ge ↦
              let e : p ≡ s = omega arith in
              let none : Fall = record { low = NEVER; high = 0; top = 0 } in
              let at' : slice_get (set falls s none) s ≡ Some f = rw (w.falls-is, e) at at in
              let here : none ≡ f = sym (get_or-set_same falls s none f within)
              ∙ get_or_from_slice_get (set falls s none) s f f at' in
              absurd (let top = ap (λ (g : Fall). g.top) here in omega (arith, top))
        ]
      ];
    }

pub returns-clause-falls : goal.returns-clause-falls
returns-clause-falls g c l was h are =
    let fallen = c.args.fallen.now in
    record {
      fall = λ p f at.
          let within = slice_get_within c.loop-stop.falls p f at in
          elim (cases_Bool (get_or fallen p false)) [
            | inl on ↦
                let noted : slice_get fallen p ≡ Some true =
                slice_get-get_or fallen p false (omega (arith, within)) ∙ ap Some on in
                rw (← are.noted p noted) (c.loop-stop.invariant.falls l p f h (omega arith) at noted)
            | inr off ↦
                let same =
                are.still p (λ on. false≢true (sym off ∙ get_or_from_slice_get fallen p true false on)) in
                record {
                  low = λ k. absurd (omega (arith, k, same));
                  high = λ k. absurd (omega (arith, k, same));
                  top = λ k. absurd (omega (arith, k, same));
                }
          ];
    }

pub note_all-requires : goal.note_all-requires
note_all-requires g c k line position at =
    let h = c.requires.in_range c.loop-stop.stop line position (c.boarded_at.result.now, k, c.boarded_at.ensures, at) in
    omega arith

pub returns-clause-due : goal.returns-clause-due
returns-clause-due g c p line position f b at fell =
    let w = slice_get_within c.loop-stop.falls p f at in
    c.loop-stop.invariant.due p line position f (omega arith) b at fell
