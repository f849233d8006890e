-- Blocks of lines, byte after byte and block after block.
use Rattle.std.proofs.Common.{◌≡◌, ◌∙◌, ◌++◌, ◌==◌, ◌&&◌, ◌<◌, ◌≤◌, ℕ, Bool, true, false, List, [], ◌∷◌, length, refl}
use Rattle.std.proofs.Common.{sym, ap, subst, if◌then◌else◌, Option, Some, None, Vec, append-nil, arith}
use Rattle.std.proofs.KnownBytes.{Consumes-nil, Consumes-trans}
use Rattle.std.proofs.lemmas.Bool.{eq-eqb, eqb-true, false_from_ne_true}
use Rattle.std.specs.declared.alloc.Global.{Global}
use Rattle.std.specs.Io.KnownBytes.{Consumes, IsAtEnd}
use Rattle.program.specs.Blocks.{AreBlocks, Gathers, IsBlock, IsLast, IsNext, IsReadOf, block_at, is_closed, rest_at}
use Rattle.program.specs.declared.blocks.Block.{Block}
use Rattle.program.specs.declared.blocks.Gathered.TheVariants as gathered
use Rattle.program.specs.declared.blocks.Gathered.{Gathered}

-- whether a line begins after these bytes
abbrev pub begins_after : Bool → List ℕ → Bool
begins_after begins [] = begins
begins_after begins (b ∷ bs) = begins_after (b == 10) bs

-- bytes that were read, in which no empty line came, and what is kept of them
pub record AreGathered (known left : Option (List ℕ)) (g : Gathered) (begins : Bool) : Type 0 where
  pub bytes : List ℕ
  pub consumed : Consumes known left bytes
  pub gathers : Gathers bytes g
  pub open_still : is_closed true bytes ≡ false
  pub begins_is : begins_after true bytes ≡ begins

pub begins_next : (n : Bool) (xs : List ℕ) (b : ℕ) → begins_after n (xs ++ b ∷ []) ≡ (b == 10)
begins_next n [] b = refl
begins_next n (x ∷ xs) b = begins_next (x == 10) xs b

-- where no empty line came before, one more byte decides
pub closed_next : (n : Bool) (xs : List ℕ) (b : ℕ) → is_closed n xs ≡ false →
    is_closed n (xs ++ b ∷ []) ≡ (begins_after n xs && (b == 10))
closed_next n [] b e = go (n && (b == 10))
  where
    go : (t : Bool) → (if t then true else false) ≡ t
    go true = refl
    go false = refl
closed_next n (x ∷ xs) b e = go (n && (x == 10)) e (λ o. closed_next (x == 10) xs b o)
  where
    go : (t : Bool) → (if t then true else is_closed (x == 10) xs) ≡ false →
        (is_closed (x == 10) xs ≡ false → is_closed (x == 10) (xs ++ b ∷ [])
        ≡ (begins_after (x == 10) xs && (b == 10))) →
        (if t then true else is_closed (x == 10) (xs ++ b ∷ [])) ≡ (begins_after (x == 10) xs && (b == 10))
    go true bad later = absurd (let never : true ≡ false = bad in cc)
    go false open_still later = later open_still

-- where no empty line comes, all bytes are the block
pub block_open : (n : Bool) (xs : List ℕ) → is_closed n xs ≡ false → (block_at n xs ≡ xs) × (rest_at n xs ≡ [])
block_open n [] e = (refl, refl)
block_open n (x ∷ xs) e = go (n && (x == 10)) e (λ o. block_open (x == 10) xs o)
  where
    go : (t : Bool) → (if t then true else is_closed (x == 10) xs) ≡ false →
        (is_closed (x == 10) xs ≡ false → (block_at (x == 10) xs ≡ xs) × (rest_at (x == 10) xs ≡ [])) →
        ((if t then [] else x ∷ block_at (x == 10) xs) ≡ x ∷ xs)
        × ((if t then xs else rest_at (x == 10) xs) ≡ [])
    go true bad later = absurd (let never : true ≡ false = bad in cc)
    go false open_still later =
        let p = later open_still in
        (ap (λ l. x ∷ l) p.0, p.1)

-- where the empty line comes last, all bytes before it are the block
pub block_end : (n : Bool) (xs : List ℕ) (b : ℕ) → is_closed n xs ≡ false → (begins_after n xs && (b == 10)) ≡ true →
    (block_at n (xs ++ b ∷ []) ≡ xs) × (rest_at n (xs ++ b ∷ []) ≡ [])
block_end n [] b e ends = go (n && (b == 10)) ends
  where
    go : (t : Bool) → t ≡ true → ((if t then [] else b ∷ block_at (b == 10) []) ≡ [])
        × ((if t then [] else rest_at (b == 10) []) ≡ [])
    go true same = (refl, refl)
    go false wrong = absurd (let never : false ≡ true = wrong in cc)
block_end n (x ∷ xs) b e ends = go (n && (x == 10)) e (λ o. block_end (x == 10) xs b o ends)
  where
    go : (t : Bool) → (if t then true else is_closed (x == 10) xs) ≡ false →
        (is_closed (x == 10) xs ≡ false → (block_at (x == 10) (xs ++ b ∷ []) ≡ xs)
        × (rest_at (x == 10) (xs ++ b ∷ []) ≡ [])) →
        ((if t then [] else x ∷ block_at (x == 10) (xs ++ b ∷ [])) ≡ x ∷ xs)
        × ((if t then xs ++ b ∷ [] else rest_at (x == 10) (xs ++ b ∷ [])) ≡ [])
    go true bad later = absurd (let never : true ≡ false = bad in cc)
    go false open_still later =
        let p = later open_still in
        (ap (λ l. x ∷ l) p.0, p.1)

-- after an empty line, further bytes change nothing of the block
pub closed_before : (n : Bool) (xs ys : List ℕ) → is_closed n xs ≡ true →
    (is_closed n (xs ++ ys) ≡ true) × (block_at n (xs ++ ys) ≡ block_at n xs)
    × (rest_at n (xs ++ ys) ≡ rest_at n xs ++ ys)
closed_before n [] ys e = absurd (let bad : false ≡ true = e in cc)
closed_before n (x ∷ xs) ys e = go (n && (x == 10)) e (λ o. closed_before (x == 10) xs ys o)
  where
    go : (t : Bool) → (if t then true else is_closed (x == 10) xs) ≡ true →
        (is_closed (x == 10) xs ≡ true → (is_closed (x == 10) (xs ++ ys) ≡ true)
        × (block_at (x == 10) (xs ++ ys) ≡ block_at (x == 10) xs)
        × (rest_at (x == 10) (xs ++ ys) ≡ rest_at (x == 10) xs ++ ys)) →
        ((if t then true else is_closed (x == 10) (xs ++ ys)) ≡ true)
        × ((if t then [] else x ∷ block_at (x == 10) (xs ++ ys)) ≡ (if t then [] else x ∷ block_at (x == 10) xs))
        × ((if t then xs ++ ys else rest_at (x == 10) (xs ++ ys)) ≡ (if t then xs else rest_at (x == 10) xs) ++ ys)
    go true same later = (refl, refl, refl)
    go false closed later =
        let p = later closed in
        (p.0, ap (λ l. x ∷ l) p.1, p.2)

-- these are the blocks of the bytes, and an empty line ended each
abbrev pub AreClosed : List ℕ → List (List ℕ) → Type 0
AreClosed bytes [] = bytes ≡ []
AreClosed bytes (block ∷ blocks) =
    (is_closed true bytes ≡ true) × (block ≡ block_at true bytes) × AreClosed (rest_at true bytes) blocks

not_nothing : (xs : List ℕ) → is_closed true xs ≡ true → xs ≡ [] → ⊥
not_nothing xs closed nothing =
    let bad : false ≡ true = sym (ap (is_closed true) nothing) ∙ closed in
    absurd (cc)

some_before : (xs ys : List ℕ) → (xs ≡ [] → ⊥) → xs ++ ys ≡ [] → ⊥
some_before [] ys some e = some refl
some_before (x ∷ xs) ys some e = cc

pub closed_are_blocks : (blocks : List (List ℕ)) (bytes : List ℕ) → AreClosed bytes blocks → AreBlocks bytes blocks
closed_are_blocks [] bytes h = h
closed_are_blocks (block ∷ blocks) bytes h =
    (not_nothing bytes h.0, h.1, closed_are_blocks blocks (rest_at true bytes) h.2)

-- one more block, which the input's end may have ended
pub more_blocks : (blocks : List (List ℕ)) (xs ys : List ℕ) → AreClosed xs blocks → (ys ≡ [] → ⊥) →
    rest_at true ys ≡ [] → AreBlocks (xs ++ ys) (blocks ++ block_at true ys ∷ [])
more_blocks [] xs ys h some rest =
    subst (λ zs. AreBlocks (zs ++ ys) (block_at true ys ∷ [])) (sym h) (some, refl, rest)
more_blocks (block ∷ blocks) xs ys h some rest =
    let p = closed_before true xs ys h.0 in
    let later = more_blocks blocks (rest_at true xs) ys h.2 some rest in (
      some_before xs ys (not_nothing xs h.0),
      h.1 ∙ sym p.1,
      subst (λ zs. AreBlocks zs (blocks ++ block_at true ys ∷ [])) (sym p.2) later,
    )

-- one more block, which an empty line ended
pub more_closed : (blocks : List (List ℕ)) (xs ys : List ℕ) → AreClosed xs blocks → is_closed true ys ≡ true →
    rest_at true ys ≡ [] → AreClosed (xs ++ ys) (blocks ++ block_at true ys ∷ [])
more_closed [] xs ys h closed rest =
    subst (λ zs. AreClosed (zs ++ ys) (block_at true ys ∷ [])) (sym h) (closed, refl, rest)
more_closed (block ∷ blocks) xs ys h closed rest =
    let p = closed_before true xs ys h.0 in
    let later = more_closed blocks (rest_at true xs) ys h.2 closed rest in
    (p.0, h.1 ∙ sym p.1, subst (λ zs. AreClosed zs (blocks ++ block_at true ys ∷ [])) (sym p.2) later)

-- ---- the bytes of a block, one after another

pub gathered_more : (known mid left : Option (List ℕ)) (g next : Gathered) (begins : Bool) (b : ℕ) →
    AreGathered known mid g begins → Consumes mid left (b ∷ []) → (begins && (b == 10)) ≡ false →
    ((read : List ℕ) → Gathers read g → Gathers (read ++ b ∷ []) next) → AreGathered known left next (b == 10)
gathered_more known mid left g next begins b h one goes gives = record {
  bytes = h.bytes ++ b ∷ [];
  consumed = Consumes-trans known mid left h.bytes (b ∷ []) h.consumed one;
  gathers = gives h.bytes h.gathers;
  open_still = closed_next true h.bytes b h.open_still ∙ ap (λ n. n && (b == 10)) h.begins_is ∙ goes;
  begins_is = begins_next true h.bytes b;
}

some_after : (xs : List ℕ) (b : ℕ) → xs ++ b ∷ [] ≡ [] → ⊥
some_after [] b e = cc
some_after (x ∷ xs) b e = cc

pub gathered_closed : (known mid left : Option (List ℕ)) (g : Gathered) (begins : Bool) (b : ℕ) (block : Block) →
    AreGathered known mid g begins → Consumes mid left (b ∷ []) → (begins && (b == 10)) ≡ true →
    block.is_closed ≡ true → ((read : List ℕ) → Gathers read g → IsReadOf read block.words) →
    IsBlock known left block
gathered_closed known mid left g begins b block h one goes closed gives =
    let ends : (begins_after true h.bytes && (b == 10)) ≡ true = ap (λ n. n && (b == 10)) h.begins_is ∙ goes in
    let p = block_end true h.bytes b h.open_still ends in
    record {
      bytes = h.bytes ++ b ∷ [];
      some = some_after h.bytes b;
      consumed = Consumes-trans known mid left h.bytes (b ∷ []) h.consumed one;
      closed_is = closed_next true h.bytes b h.open_still ∙ ends ∙ sym closed;
      nothing_after = p.1;
      words = subst (λ bytes. IsReadOf bytes block.words) (sym p.0) (gives h.bytes h.gathers);
      ended = λ not_closed. absurd (let never : true ≡ false = sym closed ∙ not_closed in cc);
    }

pub gathered_last : (known mid left : Option (List ℕ)) (g : Gathered) (begins : Bool) (last : Option Block) →
    AreGathered known mid g begins → Consumes mid left [] → IsAtEnd left →
    ((read : List ℕ) → Gathers read g → IsLast read last) → IsNext known left last
gathered_last known mid left g begins None h none ended gives =
    let nothing : h.bytes ≡ [] = gives h.bytes h.gathers in (
      subst (Consumes known left) (append-nil h.bytes ∙ nothing)
          (Consumes-trans known mid left h.bytes [] h.consumed none),
      ended,
    )
gathered_last known mid left g begins (Some block) h none ended gives =
    let p = gives h.bytes h.gathers in
    let all = block_open true h.bytes h.open_still in
    record {
      bytes = h.bytes;
      some = p.0;
      consumed = subst (Consumes known left) (append-nil h.bytes)
          (Consumes-trans known mid left h.bytes [] h.consumed none);
      closed_is = h.open_still ∙ sym p.1;
      nothing_after = all.1;
      words = subst (λ bytes. IsReadOf bytes block.words) (sym all.0) p.2;
      ended = λ _. ended;
    }

-- ---- whether a byte is an empty line

pub is_end : (n : Bool) (b : ℕ) → n ≡ true → b ≡ 10 → (n && (b == 10)) ≡ true
is_end n b begins same = ap (λ t. t && (b == 10)) begins ∙ eq-eqb b 10 same

pub is_no_line : (n : Bool) (b : ℕ) → n ≡ false → (n && (b == 10)) ≡ false
is_no_line n b goes = ap (λ t. t && (b == 10)) goes

pub is_other : (n : Bool) (b : ℕ) → n ≡ true → (b ≡ 10 → ⊥) → (n && (b == 10)) ≡ false
is_other n b begins other =
    ap (λ t. t && (b == 10)) begins ∙ false_from_ne_true (b == 10) (λ e. other (eqb-true b 10 e))
