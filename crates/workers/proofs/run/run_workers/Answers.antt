use Rattle.std.proofs.Common.{◌≡◌, ◌∙◌, ℕ, List, [], ap, length, sym, subst, arith}
use Rattle.work_book.specs.Board.{seen_by}
use Rattle.work_book.specs.declared.rule.View.{View}
use Rattle.collector.specs.Places.{PlacesData}
use Rattle.workers.specs.Study.{study_of}
use Rattle.workers.specs.Filling.{AreFilledAs}
use Rattle.workers.specs.Held.{AreTold}
use Rattle.workers.specs.Outcomes.{HasSplit, joined, without}
use Rattle.workers.proofs.OffersFill.{opens}
use Rattle.workers.proofs.RunEnds.{matrix_ended, shape_ended, kept_ended, fault_ended, kept_told, none_told}
use Rattle.workers.proofs.RunEnds.{has_split, if_ok, names_first, splits}
use Rattle.workers.proofs.LeftEmpty.{by_gate}
use Rattle.workers.proofs.run.run_workers.Goals as goal

pub returns-clause-matrix : goal.returns-clause-matrix
returns-clause-matrix g c =
    let s = study_of c.args.study.now in
    let v = seen_by c.gather-ends.new.seat in
    let none : (seen_by c.split_all.new.seat).kept ≡ [] = c.in_ok-seats.ensures.lists.1 ∙ c.requires.empty.1 in
    let start = subst (λ (z : List ℕ × PlacesData). AreFilledAs s z.0 z.1)
    (λ i. (sym none i, sym c.in_ok-collector.ensures i)) (opens s) in
    matrix_ended s v c.gather-ends.new.collector
    (c.gather-ends.ensures.filled s c.requires.fits (λ k d below. (c.in_ok-worked.ensures.given k d below).holds)
    start) c.matrix_of.result c.matrix_of.ensures.full

pub returns-clause-shape : goal.returns-clause-shape
returns-clause-shape g c =
    let s = study_of c.args.study.now in
    let v = seen_by c.gather-ends.new.seat in
    let none : (seen_by c.split_all.new.seat).kept ≡ [] = c.in_ok-seats.ensures.lists.1 ∙ c.requires.empty.1 in
    let start = subst (λ (z : List ℕ × PlacesData). AreFilledAs s z.0 z.1)
    (λ i. (sym none i, sym c.in_ok-collector.ensures i)) (opens s) in
    shape_ended s v c.gather-ends.new.collector
    (c.gather-ends.ensures.filled s c.requires.fits (λ k d below. (c.in_ok-worked.ensures.given k d below).holds)
    start) c.matrix_of.result c.requires.fits c.matrix_of.ensures.full

pub returns-clause-kept : goal.returns-clause-kept
returns-clause-kept g c =
    let s = study_of c.args.study.now in
    let v = seen_by c.gather-ends.new.seat in
    let none : (seen_by c.split_all.new.seat).kept ≡ [] = c.in_ok-seats.ensures.lists.1 ∙ c.requires.empty.1 in
    let start = subst (λ (z : List ℕ × PlacesData). AreFilledAs s z.0 z.1)
    (λ i. (sym none i, sym c.in_ok-collector.ensures i)) (opens s) in
    kept_ended s v c.gather-ends.new.collector
    (c.gather-ends.ensures.filled s c.requires.fits (λ k d below. (c.in_ok-worked.ensures.given k d below).holds)
    start) c.matrix_of.result c.gather-ends.ensures.once c.matrix_of.ensures.full

pub returns-clause-fault : goal.returns-clause-fault
returns-clause-fault g c =
    let worked = c.in_ok-worked.worked in
    let count : length worked.items ≡ c.args.workers =
    omega (arith, c.in_ok-worked.ensures.count, c.in_ok-seats.ensures.count, worked.ok.0) in
    fault_ended (study_of c.args.study.now) (g.G.Gate.decides c.args.gate.now) (g.G.Gate.was_told c.args.gate.now)
    c.args.board.now c.args.workers (seen_by c.args.seat.now) (seen_by c.gather-ends.new.seat) worked.items
    c.matrix_of.result count c.in_ok-worked.ensures.given
    (c.gather-ends.ensures.joined ∙ ap (λ (z : View). joined z worked.items) c.in_ok-seats.ensures.left)
    (c.matrix_of.ensures.fault (study_of c.args.study.now) (seen_by c.gather-ends.new.seat) worked.items
    (c.gather-ends.ensures.filled (study_of c.args.study.now) c.requires.fits
    (λ k d below. (c.in_ok-worked.ensures.given k d below).holds)
    (subst (λ (z : List ℕ × PlacesData). AreFilledAs (study_of c.args.study.now) z.0 z.1)
    (λ i. (
      sym (c.in_ok-seats.ensures.lists.1 ∙ c.requires.empty.1) i,
      sym c.in_ok-collector.ensures i,
    )) (opens (study_of c.args.study.now))))
    c.gather-ends.ensures.once c.gather-ends.ensures.short c.gather-ends.ensures.started)

pub returns-clause-split : goal.returns-clause-split
returns-clause-split g c =
    let start = seen_by c.args.seat.now in
    let v = seen_by c.gather-ends.new.seat in
    let worked = c.in_ok-worked.worked in
    let count : length worked.items ≡ c.args.workers =
    omega (arith, c.in_ok-worked.ensures.count, c.in_ok-seats.ensures.count, worked.ok.0) in
    if_ok (HasSplit c.args.workers start v) c.matrix_of.result (has_split c.args.workers start v worked.items
    c.requires.share count (λ k d below. (c.in_ok-worked.ensures.given k d below).share)
    (c.gather-ends.ensures.joined ∙ ap (λ (z : View). joined z worked.items) c.in_ok-seats.ensures.left))

pub returns-clause-split_fault : goal.returns-clause-split_fault
returns-clause-split_fault g c =
    splits (study_of c.args.study.now) (g.G.Gate.decides c.args.gate.now) (g.G.Gate.was_told c.args.gate.now)
    c.args.board.now c.args.workers (seen_by c.args.seat.now) (seen_by c.gather-ends.new.seat) c.matrix_of.result
    c.requires.share (returns-clause-fault g c)

pub returns-clause-place : goal.returns-clause-place
returns-clause-place g c =
    names_first (study_of c.args.study.now) (g.G.Gate.decides c.args.gate.now) (g.G.Gate.was_told c.args.gate.now)
    c.args.board.now c.args.workers (seen_by c.args.seat.now) (seen_by c.gather-ends.new.seat) c.matrix_of.result
    (returns-clause-fault g c)

pub returns-clause-told : goal.returns-clause-told
returns-clause-told g c =
    let decides = g.G.Gate.decides c.args.gate.now in
    let was_told = g.G.Gate.was_told c.args.gate.now in
    let start = seen_by c.split_all.new.seat in
    let worked = c.in_ok-worked.worked.items in
    let none : start.kept ≡ [] = c.in_ok-seats.ensures.lists.1 ∙ c.requires.empty.1 in
    subst (λ (v : View). AreTold decides was_told v.kept) (sym c.gather-ends.ensures.joined)
    (kept_told decides was_told start worked (subst (AreTold decides was_told) (sym none) (none_told decides was_told))
    (λ k d below. (c.in_ok-worked.ensures.given k d below).told))

pub returns-clause-by_gate : goal.returns-clause-by_gate
returns-clause-by_gate g c = λ all.
    let s = study_of c.args.study.now in
    let start = seen_by c.args.seat.now in
    let v = seen_by c.gather-ends.new.seat in
    let worked = c.in_ok-worked.worked in
    let is : v ≡ joined (without c.args.workers start) worked.items =
    c.gather-ends.ensures.joined ∙ ap (λ (z : View). joined z worked.items) c.in_ok-seats.ensures.left in
    let count : length worked.items ≡ c.args.workers =
    omega (arith, c.in_ok-worked.ensures.count, c.in_ok-seats.ensures.count, worked.ok.0) in
    let split = has_split c.args.workers start v worked.items c.requires.share count
    (λ k d below. (c.in_ok-worked.ensures.given k d below).share) is in
    by_gate (g.G.Gate.decides c.args.gate.now) (g.G.Gate.was_told c.args.gate.now) c.args.board.now s v start
    c.args.workers worked.items c.matrix_of.result c.requires.jobs c.gather-ends.ensures.board.1
    (c.gather-ends.ensures.whole (split.share ∙ all)) c.requires.empty.0 c.in_ok-worked.ensures.given is
    (returns-clause-told g c)
    (c.matrix_of.ensures.fault s v worked.items
    (c.gather-ends.ensures.filled s c.requires.fits (λ k d below. (c.in_ok-worked.ensures.given k d below).holds)
    (subst (λ (z : List ℕ × PlacesData). AreFilledAs s z.0 z.1)
    (λ i. (
      sym (c.in_ok-seats.ensures.lists.1 ∙ c.requires.empty.1) i,
      sym c.in_ok-collector.ensures i,
    )) (opens s)))
    c.gather-ends.ensures.once c.gather-ends.ensures.short c.gather-ends.ensures.started)
