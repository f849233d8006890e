-- The lines of a row, one after another.
use Rattle.std.proofs.Common.{◌≡◌, ◌<◌, ◌≤◌, ◌+◌, ◌∙◌, ℕ, List, [], ◌∷◌, ◌++◌, Option, length, take, drop, get_or, ap}
use Rattle.std.proofs.Common.{sym, subst, append-nil, take-append-drop}
use Rattle.std.proofs.KnownBytes.{Appends-trans}
use Rattle.std.proofs.lemmas.List.{take_all, take_more}
use Rattle.std.proofs.lemmas.List.Concat.{flat_map-append}
use Rattle.std.specs.Io.KnownBytes.{Appends}
use Rattle.std.specs.List.{flat_map}
use Rattle.matrix_text.specs.Prefixes.{PutsPrefix}
use Rattle.matrix_text.proofs.Prefixes.{cut_after, cut_before}

module _ {X : Type 0} (line : X → List ℕ) (xs : List X) where
  -- the lines so far, and the next
  next_line : (k : ℕ) (x : X) → k < length xs →
      flat_map line (take (k + 1) xs) ≡ flat_map line (take k xs) ++ line (get_or xs k x)
  next_line k x lt =
      ap (λ (l : List X). flat_map line l) (take_more xs k x lt)
      ∙ flat_map-append line (take k xs) (get_or xs k x ∷ [])
      ∙ ap (λ (l : List ℕ). flat_map line (take k xs) ++ l) (append-nil (line (get_or xs k x)))

  -- the lines so far, and those that are left
  all_lines : (k : ℕ) → flat_map line xs ≡ flat_map line (take k xs) ++ flat_map line (drop k xs)
  all_lines k = ap (λ (l : List X). flat_map line l) (sym (take-append-drop k xs))
      ∙ flat_map-append line (take k xs) (drop k xs)

  -- one more line is out
  pub line_out : (a b c : Option (List ℕ)) (k : ℕ) (x : X) → k < length xs → Appends a b (flat_map line (take k xs)) →
      Appends b c (line (get_or xs k x))
      → Appends a c (flat_map line (take (k + 1) xs))
  line_out a b c k x lt h p =
      subst (λ (l : List ℕ). Appends a c l) (sym (next_line k x lt))
      (Appends-trans a b c (flat_map line (take k xs)) (line (get_or xs k x)) h p)

  -- a prefix of the next line is out, and so of all
  pub line_cut : (a b c : Option (List ℕ)) (k : ℕ) (x : X) → k < length xs → Appends a b (flat_map line (take k xs)) →
      PutsPrefix b c (line (get_or xs k x))
      → PutsPrefix a c (flat_map line xs)
  line_cut a b c k x lt h p =
      let left = flat_map line (drop (k + 1) xs) in
      let whole : flat_map line xs ≡ (flat_map line (take k xs) ++ line (get_or xs k x)) ++ left =
      all_lines (k + 1) ∙ ap (λ (l : List ℕ). l ++ left) (next_line k x lt) in
      subst (λ (l : List ℕ). PutsPrefix a c l) (sym whole)
      (cut_before a c (flat_map line (take k xs) ++ line (get_or xs k x)) left
      (cut_after a b c (flat_map line (take k xs)) (line (get_or xs k x)) h p))

  -- the last line is out
  pub lines_out : (a b : Option (List ℕ)) (k : ℕ) → length xs ≤ k → Appends a b (flat_map line (take k xs)) →
      Appends a b (flat_map line xs)
  lines_out a b k all h = subst (λ (l : List ℕ). Appends a b l)
      (ap (λ (l : List X). flat_map line l) (take_all k xs all)) h
