-- Texts that are put out in parts, the last of them perhaps cut off.
use Rattle.std.proofs.Common.{◌≡◌, ◌<◌, ◌+◌, ℕ, zero, suc, List, ◌++◌, Option, inl, inr, ◌⊎◌, take, drop, sym, ap, ◌∙◌}
use Rattle.std.proofs.Common.{subst, arith, append_assoc, take-append-drop, length, length-drop}
use Rattle.std.proofs.KnownBytes.{Appends-trans}
use Rattle.std.proofs.lemmas.Bool.{cases_order}
use Rattle.std.specs.Io.KnownBytes.{Appends}
use Rattle.matrix_text.specs.Prefixes.{PutsPart, PutsPrefix}
use Rattle.matrix_text.specs.Text.{texts_below}

-- the first bytes of a text are a prefix
pub first_out : (a b : Option (List ℕ)) (text : List ℕ) (n : ℕ) → Appends a b (take n text) → PutsPrefix a b text
first_out a b text n h = record { out = take n text; left = drop n text; split = take-append-drop n text; appended = h }

-- and where they aren't all, a part
pub part_out : (a b : Option (List ℕ)) (text : List ℕ) (n : ℕ) → n < length text → Appends a b (take n text) →
    PutsPart a b text
part_out a b text n few h =
    record {
      out = take n text;
      left = drop n text;
      split = take-append-drop n text;
      some_left = omega (arith, length-drop n text);
      appended = h;
    }

-- a prefix of the first part
pub cut_before : (a b : Option (List ℕ)) (first more : List ℕ) → PutsPrefix a b first → PutsPrefix a b (first ++ more)
cut_before a b first more p = record {
  out = p.out;
  left = p.left ++ more;
  split = sym (append_assoc p.out p.left more) ∙ ap (λ (l : List ℕ). l ++ more) p.split;
  appended = p.appended;
}

-- the first part, and a prefix of the second
pub cut_after : (a b c : Option (List ℕ)) (first more : List ℕ) → Appends a b first → PutsPrefix b c more →
    PutsPrefix a c (first ++ more)
cut_after a b c first more h p = record {
  out = first ++ p.out;
  left = p.left;
  split = append_assoc first p.out p.left ∙ ap (λ (l : List ℕ). first ++ l) p.split;
  appended = Appends-trans a b c first p.out h p.appended;
}

-- a prefix of fewer texts
fewer : (a b : Option (List ℕ)) (text : ℕ → List ℕ) (k n : ℕ) → k < n → PutsPrefix a b (texts_below text (suc k)) →
    PutsPrefix a b (texts_below text n)
fewer a b text k zero low p = absurd (omega arith)
fewer a b text k (suc n) low p = at (λ l. fewer a b text k n l p) (cases_order k n)
  where
    at : (k < n → PutsPrefix a b (texts_below text n)) → (k ≡ n) ⊎ ((k < n) ⊎ (n < k)) →
        PutsPrefix a b (texts_below text (suc n))
    at below (inl e) = subst (λ j. PutsPrefix a b (texts_below text (suc j))) e p
    at below (inr (inl l)) = cut_before a b (texts_below text n) (text n) (below l)
    at below (inr (inr l)) = absurd (omega arith)

-- the texts below k, and a prefix of the next
pub cut_below : (a b c : Option (List ℕ)) (text : ℕ → List ℕ) (k n : ℕ) → k < n → Appends a b (texts_below text k) →
    PutsPrefix b c (text k) → PutsPrefix a c (texts_below text n)
cut_below a b c text k n low h p = fewer a c text k n low (cut_after a b c (texts_below text k) (text k) h p)
