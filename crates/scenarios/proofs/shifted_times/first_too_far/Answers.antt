use Rattle.std.proofs.Common.{◌≡◌, ◌∙◌, ◌+◌, ◌-◌, [], ap, arith, drop, false, get_or, length, sym}
use Rattle.std.specs.List.{list_any}
use Rattle.std.proofs.lemmas.List.{drop_all}
use Rattle.scenarios.specs.ShiftedTimes.{range_faults, shifts_trip}
use Rattle.scenarios.specs.declared.edits.Edit.TheVariants.{RemoveRoute}
use Rattle.scenarios.proofs.LastShifts.{found_here, found_later, from_one, from_start}
use Rattle.scenarios.proofs.shifted_times.first_too_far.Goals as goal

pub loop-i-init : goal.loop-i-init
loop-i-init c =
    let edits = c.edits-edits.result.now in
    let none : drop (length edits) edits ≡ [] = drop_all (length edits) edits (omega arith) in
    record {
      later = λ k. ap (λ l. get_or l k false) c.new-later.ensures.items ∙ sym (ap (list_any (shifts_trip k)) none);
      first = ap (range_faults c.args.feed.now c.args.scenario.now.edits (length edits + 2)) none;
    }

pub loop-i-preserved-then-branch : goal.loop-i-preserved-then-branch
loop-i-preserved-then-branch c =
    let edits = c.edits-edits.result.now in
    let i = c.loop-i.i in
    let one : i - 1 + 1 ≡ i = omega arith in
    let within = c.loop-i.auto.i in
    let d = RemoveRoute 0 in
    let (is, later) = c.in_ok-is_last_too_far.ensures (drop i edits) c.loop-i.invariant.later in
    record {
      later = λ k. later k ∙ sym (ap (list_any (shifts_trip k))
          (from_one c.args.feed.now c.args.scenario.now.edits edits i (i - 1) one within d));
      first = found_here c.args.feed.now c.args.scenario.now.edits edits i (i - 1) one within d (sym c.if-branch.true
          ∙ is);
    }

pub loop-i-preserved : goal.loop-i-preserved
loop-i-preserved c =
    let edits = c.edits-edits.result.now in
    let i = c.loop-i.i in
    let one : i - 1 + 1 ≡ i = omega arith in
    let within = c.loop-i.auto.i in
    let d = RemoveRoute 0 in
    let (is, later) = c.in_ok-is_last_too_far.ensures (drop i edits) c.loop-i.invariant.later in
    record {
      later = λ k. later k ∙ sym (ap (list_any (shifts_trip k))
          (from_one c.args.feed.now c.args.scenario.now.edits edits i (i - 1) one within d));
      first = found_later c.args.feed.now c.args.scenario.now.edits edits i (i - 1) one within d c.loop-i.first
          (sym c.if-branch.false ∙ is) c.loop-i.invariant.first;
    }

pub returns : goal.returns
returns c = from_start c.args.feed.now c.args.scenario.now.edits c.edits-edits.result.now c.loop-i.i c.loop-i.first
    (omega arith) c.edits-edits.ensures c.loop-i.invariant.first
