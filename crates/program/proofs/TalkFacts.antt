-- Answers, one after another.
use Rattle.std.proofs.Common.{◌≡◌, ◌∙◌, ◌++◌, ℕ, Bool, true, false, List, [], ◌∷◌, refl, sym, ap, subst, Option}
use Rattle.std.proofs.Common.{append_assoc, append-nil, inl, inr}
use Rattle.std.proofs.KnownBytes.{Appends-nil, Appends-trans, Consumes-nil, Consumes-trans}
use Rattle.std.specs.Io.KnownBytes.{Appends, Consumes}
use Rattle.std.specs.List.{concat}
use Rattle.matrix_text.specs.Prefixes.{PutsPart, PutsPrefix}
use Rattle.outputs.specs.Outputs.{After}
use Rattle.studies.specs.Inputs.{InputFiles}
use Rattle.studies.specs.Settings.{SettingsData}
use Rattle.program.proofs.BlockFacts.{AreClosed, closed_are_blocks, more_blocks, more_closed}
use Rattle.program.specs.Blocks.{AreBlocks}
use Rattle.program.specs.Files.{Finds}
use Rattle.program.specs.Talk.{AreReplies, IsBroken, IsReply, IsStep, IsStop, IsTalk, IsWhole}
use Rattle.program.specs.declared.talk.TalkFault.{TalkFault}
use Rattle.program.specs.declared.talk.TalkFault.TheVariants as stop

-- questions that were answered so far, each ended by an empty line
pub record AreAnswered (finds : Finds) (kept : InputFiles) (base : SettingsData) (known left : Option (List ℕ))
    (out put : Option (List ℕ)) : Type 0 where
  pub bytes : List ℕ
  pub consumed : Consumes known left bytes
  pub blocks : List (List ℕ)
  pub blocks_are : AreClosed bytes blocks
  pub replies : List (List ℕ)
  pub answered : AreReplies finds kept base blocks replies
  pub whole : Appends out put (concat replies)

more_replies : (finds : Finds) (kept : InputFiles) (base : SettingsData) (blocks replies : List (List ℕ))
    (block reply : List ℕ) → AreReplies finds kept base blocks replies → IsReply finds kept base block reply →
    AreReplies finds kept base (blocks ++ block ∷ []) (replies ++ reply ∷ [])
more_replies finds kept base [] [] block reply h one = (one, tt)
more_replies finds kept base [] (r ∷ rs) block reply h one = absurd h
more_replies finds kept base (b ∷ bs) [] block reply h one = absurd h
more_replies finds kept base (b ∷ bs) (r ∷ rs) block reply h one =
    (h.0, more_replies finds kept base bs rs block reply h.1 one)

concat_more : (xs : List (List ℕ)) (x : List ℕ) → concat (xs ++ x ∷ []) ≡ concat xs ++ x
concat_more [] x = append-nil x
concat_more (y ∷ ys) x = ap (λ l. y ++ l) (concat_more ys x) ∙ sym (append_assoc y (concat ys) x)

-- a whole text and a part of the next
pub part_after : (a b c : Option (List ℕ)) (xs ys : List ℕ) → Appends a b xs → PutsPrefix b c ys →
    PutsPrefix a c (xs ++ ys)
part_after a b c xs ys first next = record {
  out = xs ++ next.out;
  left = next.left;
  split = append_assoc xs next.out next.left ∙ ap (λ l. xs ++ l) next.split;
  appended = Appends-trans a b c xs next.out first next.appended;
}

-- a part of a text that isn't out whole begins it
pub part_begins : (a b : Option (List ℕ)) (xs : List ℕ) → PutsPart a b xs → PutsPrefix a b xs
part_begins a b xs part =
    record { out = part.out; left = part.left; split = part.split; appended = part.appended }

-- a part of a text is a part of a longer one
pub part_before : (a b : Option (List ℕ)) (xs ys : List ℕ) → PutsPrefix a b xs → PutsPrefix a b (xs ++ ys)
part_before a b xs ys part = record {
  out = part.out;
  left = part.left ++ ys;
  split = sym (append_assoc part.out part.left ys) ∙ ap (λ l. l ++ ys) part.split;
  appended = part.appended;
}

-- one more question, after which the input goes on
pub goes_on : (finds : Finds) (kept : InputFiles) (base : SettingsData) (a b c out mid put : Option (List ℕ)) →
    AreAnswered finds kept base a b out mid → IsStep finds kept base b c mid put true →
    AreAnswered finds kept base a c out put
goes_on finds kept base a b c out mid put h step = elim step [
  | inl t ↦ record {
    bytes = h.bytes ++ t.bytes;
    consumed = Consumes-trans a b c h.bytes t.bytes h.consumed t.consumed;
    blocks = _;
    blocks_are = more_closed h.blocks h.bytes t.bytes h.blocks_are t.closed_is t.nothing_after;
    replies = h.replies ++ t.reply ∷ [];
    answered = more_replies finds kept base h.blocks h.replies _ t.reply h.answered t.answered;
    whole = subst (Appends out put) (sym (concat_more h.replies t.reply))
        (Appends-trans out mid put (concat h.replies) t.reply h.whole t.replied);
  }
  | inr e ↦ absurd (let bad : true ≡ false = e.0 in cc)
]

-- the last question, or none
pub ends : (finds : Finds) (kept : InputFiles) (base : SettingsData) (a b c out mid put : Option (List ℕ)) →
    AreAnswered finds kept base a b out mid → IsStep finds kept base b c mid put false →
    IsWhole finds kept base a c out put
ends finds kept base a b c out mid put h step = elim step [
  | inl t ↦ record {
    bytes = h.bytes ++ t.bytes;
    consumed = Consumes-trans a b c h.bytes t.bytes h.consumed t.consumed;
    ended = t.ended refl;
    blocks = _;
    blocks_are = more_blocks h.blocks h.bytes t.bytes h.blocks_are t.some t.nothing_after;
    replies = h.replies ++ t.reply ∷ [];
    answered = more_replies finds kept base h.blocks h.replies _ t.reply h.answered t.answered;
    whole = subst (Appends out put) (sym (concat_more h.replies t.reply))
        (Appends-trans out mid put (concat h.replies) t.reply h.whole t.replied);
  }
  | inr e ↦ record {
    bytes = h.bytes ++ [];
    consumed = Consumes-trans a b c h.bytes [] h.consumed e.1;
    ended = e.2;
    blocks = h.blocks;
    blocks_are = subst (λ bs. AreBlocks bs h.blocks) (sym (append-nil h.bytes))
        (closed_are_blocks h.blocks h.bytes h.blocks_are);
    replies = h.replies;
    answered = h.answered;
    whole = subst (λ o. Appends out o (concat h.replies)) (sym e.3) h.whole;
  }
]

-- it stops before the input's end
pub stops : (finds : Finds) (kept : InputFiles) (base : SettingsData) (a b c out mid : Option (List ℕ))
    (put : After) (fault : TalkFault) → AreAnswered finds kept base a b out mid →
    IsStop finds kept base b c mid put fault → IsTalk finds kept base a c out put fault
stops finds kept base a b c out mid put stop.Write h stopped =
    let t = stopped.1.1 in (
      stopped.0,
      record {
        bytes = h.bytes ++ t.bytes;
        consumed = Consumes-trans a b c h.bytes t.bytes h.consumed t.consumed;
        blocks = _;
        blocks_are = more_blocks h.blocks h.bytes t.bytes h.blocks_are t.some t.nothing_after;
        replies = h.replies ++ t.reply ∷ [];
        answered = more_replies finds kept base h.blocks h.replies _ t.reply h.answered t.answered;
        part = subst (PutsPrefix out put.held) (sym (concat_more h.replies t.reply))
            (part_after out mid put.held (concat h.replies) t.reply h.whole t.replied);
      },
    )
stops finds kept base a b c out mid put stop.Read h stopped = record {
  bytes = h.bytes;
  lost = stopped.0.0;
  consumed = Consumes-trans a b c h.bytes stopped.0.0 h.consumed stopped.0.1;
  blocks = h.blocks;
  blocks_are = closed_are_blocks h.blocks h.bytes h.blocks_are;
  replies = h.replies;
  answered = h.answered;
  whole = subst (λ o. Appends out o (concat h.replies)) (sym stopped.1) h.whole;
}

-- no question was answered yet
pub none_answered : (finds : Finds) (kept : InputFiles) (base : SettingsData) (a out : Option (List ℕ)) →
    AreAnswered finds kept base a a out out
none_answered finds kept base a out = record {
  bytes = [];
  consumed = Consumes-nil a;
  blocks = [];
  blocks_are = refl;
  replies = [];
  answered = tt;
  whole = Appends-nil out;
}

-- it is broken off after the questions that were answered
pub breaks : (finds : Finds) (kept : InputFiles) (base : SettingsData) (a b out put : Option (List ℕ)) →
    AreAnswered finds kept base a b out put → IsBroken finds kept base a b out put
breaks finds kept base a b out put h = record {
  bytes = h.bytes;
  lost = [];
  consumed = subst (Consumes a b) (sym (append-nil h.bytes)) h.consumed;
  blocks = h.blocks;
  blocks_are = closed_are_blocks h.blocks h.bytes h.blocks_are;
  replies = h.replies;
  answered = h.answered;
  whole = h.whole;
}

-- the same by what a turn tells
pub ends_at : (finds : Finds) (kept : InputFiles) (base : SettingsData) (a b c out mid put : Option (List ℕ))
    (more : Bool) → more ≡ false → AreAnswered finds kept base a b out mid →
    IsStep finds kept base b c mid put more → IsWhole finds kept base a c out put
ends_at finds kept base a b c out mid put more is h step =
    ends finds kept base a b c out mid put h (subst (IsStep finds kept base b c mid put) is step)

pub goes_on_at : (finds : Finds) (kept : InputFiles) (base : SettingsData) (a b c out mid put : Option (List ℕ))
    (more : Bool) → more ≡ true → AreAnswered finds kept base a b out mid →
    IsStep finds kept base b c mid put more → AreAnswered finds kept base a c out put
goes_on_at finds kept base a b c out mid put more is h step =
    goes_on finds kept base a b c out mid put h (subst (IsStep finds kept base b c mid put) is step)
