use Rattle.std.proofs.Common.{◌≡◌, ◌∙◌, ◌++◌, ◌<◌, ℕ, List, [], ◌∷◌, None, Option, Some, ap, arith, drop, drop-cons}
use Rattle.std.proofs.Common.{get_or, length, length-append, rules, suc, sym, tests}
use Rattle.std.proofs.lemmas.Iterator.{YieldsList}
use Rattle.std.proofs.lemmas.Iterator.Consumers.{YieldsList-at, YieldsList-end, YieldsList-turn}
use Rattle.std.proofs.lemmas.Iterator.Splits.{YieldsList-from_slice_split}
use Rattle.std.proofs.lemmas.List.{drop_all}
use Rattle.std.specs.Iterator.{Yields}
use Rattle.console.specs.Memory as spec
use Rattle.console.proofs.memory.memory_of.Goals as goal

-- the first figure from a line on is that of the line, or else the first one after it
at_line : (name : List ℕ) (lines : List (List ℕ)) (k : ℕ) (line : List ℕ) → k < length lines →
    line ≡ get_or lines k line →
    spec.first_figure name (drop k lines)
    ≡ spec.first_of (spec.figure_of name line) (spec.first_figure name (drop (suc k) lines))
at_line name lines k line there is =
    ap (spec.first_figure name) (drop-cons lines k line there)
    ∙ ap (λ x. spec.first_of (spec.figure_of name x) (spec.first_figure name (drop (suc k) lines))) (sym is)

-- it states some
stated : (name : List ℕ) (lines : List (List ℕ)) (k : ℕ) (line : List ℕ) (figure : Option ℕ) (bytes : ℕ) →
    (k < length lines) × (line ≡ get_or lines k line) → figure ≡ spec.figure_of name line → figure ≡ Some bytes →
    spec.first_figure name (drop k lines) ≡ spec.first_figure name lines →
    Some bytes ≡ spec.first_figure name lines
stated name lines k line figure bytes at value some before =
    ap (λ x. spec.first_of x (spec.first_figure name (drop (suc k) lines))) (sym some ∙ value)
    ∙ (sym (at_line name lines k line at.0 at.1) ∙ before)

-- it states none
passed : (name : List ℕ) (lines : List (List ℕ)) (k n : ℕ) (line : List ℕ) (figure : Option ℕ) →
    (k < length lines) × (line ≡ get_or lines k line) → figure ≡ spec.figure_of name line → figure ≡ None →
    n ≡ suc k → spec.first_figure name (drop k lines) ≡ spec.first_figure name lines →
    spec.first_figure name (drop n lines) ≡ spec.first_figure name lines
passed name lines k n line figure at value none next before =
    ap (λ x. spec.first_figure name (drop x lines)) next
    ∙ (ap (λ x. spec.first_of x (spec.first_figure name (drop (suc k) lines))) (sym none ∙ value)
    ∙ (sym (at_line name lines k line at.0 at.1) ∙ before))

-- a turn of a `for`, and its end: the earlier calls come first, since they fix the iterator
turn : {S A B : Type 0} {steps : S → Option A → S → Type 0} {s : S} (v : A → B) (all : List B) (xs : List A) (t : S) →
    Yields steps s xs t → (r : Option A) (u : S) (x : A) → r ≡ Some x → steps t r u → YieldsList steps v s all →
    (length xs < length all) × (v x ≡ get_or all (length xs) (v x))
turn v all xs t y r u x is step road = YieldsList-turn road xs t y r u x is step

end : {S A B : Type 0} {steps : S → Option A → S → Type 0} {s : S} (v : A → B) (all : List B) (xs : List A) (t : S) →
    Yields steps s xs t → (r : Option A) (u : S) → r ≡ None → steps t r u → YieldsList steps v s all →
    length xs ≡ length all
end v all xs t y r u is step road = (YieldsList-end road xs t y r u is step).1

pub returns-in-Some-figure_of-clause-figure : goal.returns-in-Some-figure_of-clause-figure
returns-in-Some-figure_of-clause-figure c =
    let lines = spec.lines_of c.args.text.now in
    let xs = c.loop-line.yielded in
    stated c.args.name.now lines (length xs) c.in-Some.line.now c.figure_of.result c.in-Some-figure_of.bytes
    (turn (λ x. x.now) lines xs c.loop-line.line-iterator c.loop-line.yielded_by c.next.result c.next.new.self
    c.in-Some.line c.in-Some.is c.next.ensures.steps
    (YieldsList-at c.into_iter-line-iterator.ensures.into_iter_gives
    (YieldsList-from_slice_split _ _ c.args.text.now c.split-line-items.ensures.rest c.split-line-items.ensures.done
    c.split-line-items.ensures.closure (λ x r q k. search (rules, tests)))))
    c.figure_of.ensures.figure c.in-Some-figure_of.is c.loop-line.invariant

pub loop-line-preserved : goal.loop-line-preserved
loop-line-preserved c =
    let lines = spec.lines_of c.args.text.now in
    let xs = c.loop-line.yielded in
    passed c.args.name.now lines (length xs) (length (xs ++ c.in-Some.line ∷ [])) c.in-Some.line.now c.figure_of.result
    (turn (λ x. x.now) lines xs c.loop-line.line-iterator c.loop-line.yielded_by c.next.result c.next.new.self
    c.in-Some.line c.in-Some.is c.next.ensures.steps
    (YieldsList-at c.into_iter-line-iterator.ensures.into_iter_gives
    (YieldsList-from_slice_split _ _ c.args.text.now c.split-line-items.ensures.rest c.split-line-items.ensures.done
    c.split-line-items.ensures.closure (λ x r q k. search (rules, tests)))))
    c.figure_of.ensures.figure c.in_default.is (omega (arith, length-append xs (c.in-Some.line ∷ [])))
    c.loop-line.invariant

pub returns-clause-figure : goal.returns-clause-figure
returns-clause-figure c =
    let lines = spec.lines_of c.args.text.now in
    let xs = c.loop-line.yielded in
    let all = end (λ x. x.now) lines xs c.loop-line.line-iterator c.loop-line.yielded_by c.next.result c.next.new.self
    c.in-None.is c.next.ensures.steps
    (YieldsList-at c.into_iter-line-iterator.ensures.into_iter_gives
    (YieldsList-from_slice_split _ _ c.args.text.now c.split-line-items.ensures.rest c.split-line-items.ensures.done
    c.split-line-items.ensures.closure (λ x r q k. search (rules, tests)))) in
    sym (ap (spec.first_figure c.args.name.now) (drop_all (length xs) lines (omega (arith, all))))
    ∙ c.loop-line.invariant
