use Rattle.std.proofs.Common.{◌≡◌, ◌∙◌, ◌==◌, ◌&&◌, ◌++◌, ◌∷◌, [], ap, inr, map, of_z, refl, rules, sym, to_z, w64}
use Rattle.std.specs.List.{list_all}
use Rattle.std.proofs.lemmas.Int.{to_z-of_z}
use Rattle.scenarios.specs.Networks.{is_event_on_axis, moved_event}
use Rattle.scenarios.specs.Moving.{arriving}
use Rattle.scenarios.proofs.MovedEvents.{all_taken, moved_more, off_axis, on_axis_more}
use Rattle.scenarios.proofs.moving.moved_events.Goals as goal
use Rattle.scenarios.proofs.moving.moved_events.Goals.{then-departs, else-departs}

pub returns-in_default-clause-fault : goal.returns-in_default-clause-fault
returns-in_default-clause-fault c =
    let z = to_z w64 (of_z w64 c.args.seconds) in
    let first : c.if-departs.moved_event ≡ (c.args.departs && (c.loop-position.position == 0)) =
    elim c.if-departs.branch [
      | then-departs w ↦ w.moved_event-is ∙ sym (ap (λ b. b && (c.loop-position.position == 0)) w.if-departs.true)
      | else-departs w ↦ w.moved_event-is ∙ w.if-departs.false
          ∙ sym (ap (λ b. b && (c.loop-position.position == 0)) w.if-departs.false)
    ] in
    inr (
      refl,
      rw (to_z-of_z w64 c.args.seconds c.ranges.seconds) at (off_axis c.args.departs c.if-departs.moved_event
          c.args.events.now c.loop-position.position _ c.loop-position-test.true first z c.in_default.ensures),
    )

pub loop-position-preserved : goal.loop-position-preserved
loop-position-preserved c =
    let z = to_z w64 (of_z w64 c.args.seconds) in
    let first : c.if-departs.moved_event ≡ (c.args.departs && (c.loop-position.position == 0)) =
    elim c.if-departs.branch [
      | then-departs w ↦ w.moved_event-is ∙ sym (ap (λ b. b && (c.loop-position.position == 0)) w.if-departs.true)
      | else-departs w ↦ w.moved_event-is ∙ w.if-departs.false
          ∙ sym (ap (λ b. b && (c.loop-position.position == 0)) w.if-departs.false)
    ] in
    let pushed : c.push.new.self.items ≡ c.loop-position.made.items ++ c.in-Some.moved ∷ [] = search rules in
    record {
      made = moved_more c.args.departs c.if-departs.moved_event c.args.events.now c.loop-position.position _
          c.loop-position-test.true first z c.loop-position.made.items c.push.new.self.items c.in-Some.moved
          c.in-Some.ensures pushed c.loop-position.invariant.made;
      axis = on_axis_more c.args.departs c.if-departs.moved_event c.args.events.now c.loop-position.position _
          c.loop-position-test.true first z c.in-Some.moved c.in-Some.ensures c.loop-position.invariant.axis;
    }

pub returns-clause-good : goal.returns-clause-good
returns-clause-good c =
    let z = to_z w64 (of_z w64 c.args.seconds) in
    let same = to_z-of_z w64 c.args.seconds c.ranges.seconds in
    let all = all_taken c.args.departs c.args.events.now c.loop-position.position c.loop-position-test.false in (
      ap (λ z. list_all (is_event_on_axis z) (arriving c.args.departs c.args.events.now)) (sym same)
          ∙ sym (ap (list_all (is_event_on_axis z)) all) ∙ c.loop-position.invariant.axis,
      c.loop-position.invariant.made ∙ ap (map (moved_event z)) all
          ∙ ap (λ z. map (moved_event z) (arriving c.args.departs c.args.events.now)) same,
    )
