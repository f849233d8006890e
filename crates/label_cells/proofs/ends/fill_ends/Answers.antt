use Rattle.std.proofs.Common.{◌≡◌, ◌≢◌, ◌≤◌, ◌<◌, ◌+◌, ◌*◌, ◌/◌, ◌%◌, ◌++◌, ◌∷◌, [], ℕ, Bool, false, List, length}
use Rattle.std.proofs.Common.{slice_index, slice_index_or, inl, inr, ap, sym, subst, ◌∙◌, arith}
use Rattle.std.proofs.lemmas.Bool.{cases_lt}
use Rattle.std.proofs.lemmas.List.{length-append, get_or_append_left, get_or_at}
use Rattle.label_cells.specs.Runs.{AreEnds, GoesOn}
use Rattle.label_cells.specs.GroupLanes.{lane_of}
use Rattle.label_cells.proofs.LanesOfGroups.{length-lane, lane_at}
use Rattle.label_cells.proofs.ends.fill_ends.Goals as goal
use Rattle.label_cells.proofs.ends.fill_ends.Goals.{then-j-eq0, else-j-eq0}

-- a block of eight in all lanes: where the mark isn't 0, the label is that of the next position
abbrev AreSame : List ℕ → ℕ → ℕ → List ℕ → ℕ → Type 0
AreSame found from width same block = (k l : ℕ) → k < 8 → l < 16 → slice_index same k ≢ 0 →
    slice_index found (from + l * width + block * 8 + k) ≡ slice_index found (from + l * width + block * 8 + k + 1)

begun : (found same : List ℕ) (from width j : ℕ) → j % 8 ≡ 0 →
    ((k l : ℕ) → k < 8 → l < 16 → slice_index same k ≢ 0 →
    slice_index found (from + l * width + j + k) ≡ slice_index found (from + l * width + j + k + 1)) →
    AreSame found from width same (j / 8)
begun found same from width j first is k l h low some =
    let e : j ≡ (j / 8) * 8 = omega (arith, first) in
    subst (λ (p : ℕ). slice_index found (from + l * width + p + k) ≡ slice_index found (from + l * width + p + k + 1)) e
    (is k l h low some)

goes_on : (found same bases : List ℕ) (from width j l : ℕ) → from + 16 * width ≤ length found → length bases ≤ width →
    l < 16 → AreSame found from width same (j / 8) → j + 1 < length bases →
    slice_index bases j ≡ slice_index bases (j + 1) → slice_index same (j % 8) ≢ 0 →
    GoesOn (lane_of found from width (length bases) l) bases j
goes_on found same bases from width j l room fits h are within base some =
    let here : from + l * width + j ≡ from + l * width + (j / 8) * 8 + j % 8 = omega arith in
    let next : from + l * width + (j / 8) * 8 + j % 8 + 1 ≡ from + l * width + (j + 1) = omega arith in
    record {
      within = (let long = length-lane found from width (length bases) l room fits h in omega (arith, long, within));
      label = lane_at found from width (length bases) l room fits h j (omega (arith, within))
          ∙ (ap (λ (p : ℕ). slice_index found p) here
          ∙ (are (j % 8) l (omega arith) h some
          ∙ (ap (λ (p : ℕ). slice_index found p) next
          ∙ sym (lane_at found from width (length bases) l room fits h (j + 1) within))));
      base = base;
    }

pub loop-j-preserved : goal.loop-j-preserved
loop-j-preserved c =
    let found = c.args.window.found.labels.now in
    let from = c.args.from in
    let width = c.args.window.found.width in
    let bases = c.args.window.found.bases.now in
    let j = c.loop-j.j in
    let ends = c.loop-j.ends.items in
    let end = c.is_end.result in
    let same = c.if-j-eq0.same in
    let size = c.loop-j.invariant.size in
    let pushed : c.push.new.self.items ≡ ends ++ end ∷ [] = c.in_ok-push.ensures.items in
    let are : AreSame found from width same (j / 8) = elim c.if-j-eq0.branch [
      | then-j-eq0 w ↦ subst (λ (xs : List ℕ). AreSame found from width xs (j / 8)) (sym w.same-is)
          (begun found w.same_eight-eight.result from width j w.if-j-eq0.true w.same_eight-eight.ensures)
      | else-j-eq0 w ↦ subst (λ (xs : List ℕ). AreSame found from width xs (j / 8)) (sym w.same-is)
          (c.loop-j.invariant.eight w.if-j-eq0.false)
    ] in
    record {
      size = (let long = ap (λ (xs : List Bool). length xs) pushed in
          let app = length-append ends (end ∷ []) in
          omega (arith, long, app, size));
      eight = λ inside. subst (λ (b : ℕ). AreSame found from width same b) (let e : j / 8 ≡ (j + 1) / 8 = omega
          (arith, inside) in e) are;
      others = λ l i h less. subst (λ (xs : List Bool). slice_index_or xs i false ≡ false →
          GoesOn (lane_of found from width (length bases) l) bases i) (sym pushed) (λ is. elim (cases_lt i j) [
            | inl lt ↦ c.loop-j.invariant.others l i h lt
                (sym (get_or_append_left ends (end ∷ []) false i (omega (arith, lt, size))) ∙ is)
            | inr ge ↦
                let e : j ≡ i = omega (arith, less, ge) in
                let open_here : c.is_end.result ≡ false = sym (get_or_at ends end [] false i (size ∙ e)) ∙ is in
                subst (λ (p : ℕ). GoesOn (lane_of found from width (length bases) l) bases p) e
                (goes_on found same bases from width j l (omega (arith, c.requires.space))
                (omega (arith, c.requires.width, c.requires.positions.too)) h are
                (c.is_end.ensures.within open_here) (c.is_end.ensures.base open_here) (c.is_end.ensures.label
                open_here))
          ]);
    }

pub returns : goal.returns
returns c l h =
    let w = c.args.window in
    let found = w.found.labels.now in
    let bases = w.found.bases.now in
    let ends = c.loop-j.ends.items in
    let long = length-lane found c.args.from w.found.width (length bases) l (omega (arith, c.requires.space))
    (omega (arith, c.requires.width, c.requires.positions.too)) h in
    subst (λ (k : ℕ). AreEnds (lane_of found c.args.from w.found.width k l) bases ends) c.requires.positions.too
    (record {
      long = (let size = c.loop-j.invariant.size in
          omega (arith, long, size, c.loop-j-test.false, c.loop-j.auto.j-end));
      others = λ i less is. c.loop-j.invariant.others l i h (omega (arith, long, less, c.loop-j-test.false)) is;
    })
