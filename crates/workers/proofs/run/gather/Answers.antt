use Rattle.std.proofs.Common.{◌≡◌, ◌||◌, ◌++◌, ◌∷◌, ℕ, List, Bool, true, false, inl, inr, length, ap, sym, subst, ◌∙◌}
use Rattle.std.specs.Vec.Iter.{into_iter_items}
use Rattle.std.proofs.lemmas.List.Elements.{All-same}
use Rattle.work_book.specs.Board.{seen_by, IsOf}
use Rattle.work_book.specs.declared.rule.View.{View}
use Rattle.collector.specs.Places.{PlacesData}
use Rattle.workers.specs.Held.{HoldsRows}
use Rattle.workers.specs.Filling.{AreFilledAs}
use Rattle.workers.specs.Outcomes.{is_short, is_some_short, is_started, is_some_started, joined}
use Rattle.workers.specs.declared.worker.Worked.{Worked}
use Rattle.workers.proofs.OffersFill.{fills}
use Rattle.workers.proofs.OneMoreOfAll.{first_of_all, rest_of_all}
use Rattle.workers.proofs.run.gather.Goals as goal

-- one worker fewer is left to ask
one_fewer : (short : Bool) (w : Worked) (rest all : List Worked) (whole : Bool) → all ≡ w ∷ rest →
    (short || is_some_short all) ≡ whole
    → ((short || is_short w.ending) || is_some_short rest) ≡ whole
one_fewer true w rest all whole e h = h
one_fewer false w rest all whole e h = ap is_some_short (sym e) ∙ h

one_started_fewer : (started : Bool) (w : Worked) (rest all : List Worked) (whole : Bool) → all ≡ w ∷ rest →
    (started || is_some_started all) ≡ whole
    → ((started || is_started w.ending) || is_some_started rest) ≡ whole
one_started_fewer true w rest all whole e h = h
one_started_fewer false w rest all whole e h = ap is_some_started (sym e) ∙ h

pub loop-done-preserved : goal.loop-done-preserved
loop-done-preserved c =
    let b = c.args.board.now in
    let was = c.loop-done.invariant in
    let steps = c.in-Some.ensures.steps in
    let all = into_iter_items c.loop-done.done-iterator in
    let rest = into_iter_items c.next.new.self in
    let before = c.loop-done.collector in
    let kept = (seen_by c.loop-done.seat).kept in
    let more = (seen_by c.in-Some.done.seat).kept in
    let now : (seen_by c.join.new.seat).kept ≡ kept ++ more = ap (λ (v : View). v.kept) c.join.ensures.both in
    record {
      board = c.join.ensures.board;
      seats = rest_of_all (λ w. IsOf b w.seat) c.in-Some.done rest all steps.0 was.seats;
      once = c.join.ensures.once;
      joined = ap (λ (v : View). joined v rest) c.join.ensures.both
          ∙ ap (joined (seen_by c.loop-done.seat)) (sym steps.0) ∙ was.joined;
      whole = λ every. inr (c.join.ensures.whole every);
      short = ap (λ t. t || is_some_short rest) c.with_ending-ends.ensures.short
          ∙ one_fewer c.loop-done.ends.short c.in-Some.done rest all (is_some_short c.args.worked.items) steps.0
          was.short;
      started = ap (λ t. t || is_some_started rest) c.with_ending-ends.ensures.started
          ∙ one_started_fewer c.loop-done.ends.started c.in-Some.done rest all (is_some_started c.args.worked.items)
          steps.0 was.started;
      filled = λ s fits worked start.
          let so_far = was.filled s fits worked start in
          let mine = first_of_all (λ w. HoldsRows s w.rows.items (seen_by w.seat).kept) c.in-Some.done rest all steps.0
          so_far.0 in (
            rest_of_all (λ w. HoldsRows s w.rows.items (seen_by w.seat).kept) c.in-Some.done rest all steps.0 so_far.0,
            subst (λ (z : List ℕ × PlacesData). AreFilledAs s z.0 z.1) (λ i. (sym now i, sym c.offer_all.ensures i))
                (fills s kept more before c.in-Some.done.rows.items fits mine so_far.1),
          );
    }

pub loop-done-init : goal.loop-done-init
loop-done-init c =
    let is = c.into_iter-done-iterator.ensures.into_iter_gives.0 in
    let all = into_iter_items c.into_iter-done-iterator.result in
    record {
      board = c.requires.board;
      seats = All-same (λ w. IsOf c.args.board.now w.seat) all c.args.worked.items is c.requires.worked;
      once = c.requires.once;
      joined = ap (joined (seen_by c.args.seat.now)) is;
      whole = λ every. inl (ap length (sym is));
      short = ap is_some_short is;
      started = ap is_some_started is;
      filled = λ s fits worked start. (
        All-same (λ w. HoldsRows s w.rows.items (seen_by w.seat).kept) all
            c.args.worked.items is worked,
        start,
      );
    }
