-- An answer and its parts.
use Rattle.std.proofs.Common.{◌≡◌, ◌++◌, ◌+◌, ◌<◌, ℕ, zero, suc, Bool, true, false, not, cond, List, [], ◌∷◌, Option}
use Rattle.std.proofs.Common.{Some, None, Result, Ok, Err, IfOk, IfErr, OnErr, OnOk, inl, inr, refl, sym, ap}
use Rattle.std.proofs.Common.{subst, ◌∙◌, Bor, arith, is_err, length, map, take, slice_index_or}
use Rattle.outputs.specs.Outputs.{After}
use Rattle.command_line.specs.declared.task.QuestionTask.{QuestionTask}
use Rattle.studies.specs.Inputs.{InputFiles}
use Rattle.studies.specs.Settings.{SettingsData}
use Rattle.program.specs.Blocks.{HasNoText, IsBlock, IsReadOf, TellsWords, block_at, is_word, words_in}
use Rattle.program.specs.Files.{Finds, IsOwn}
use Rattle.program.specs.Talk.{AreFilesOf, AreFound, EndsTalk, IsAnswerOf, IsEnd, IsOut, IsOwnOver, IsReply}
use Rattle.program.specs.Talk.{IsTalk, IsTurn}
use Rattle.program.specs.Talk.{IsWhole, file_over, files_over, short_reply}
use Rattle.program.specs.declared.blocks.Block.{Block}
use Rattle.program.specs.declared.blocks.BlockFault.{BlockFault}
use Rattle.program.specs.declared.blocks.BlockFault.TheVariants as fault
use Rattle.program.specs.declared.question_files.QuestionFiles.{QuestionFiles}
use Rattle.program.specs.declared.replies.Reply.{Reply}
use Rattle.program.specs.declared.talk.TalkFault.{TalkFault}

-- out of memory may go out in place of any answer
pub short_is_out : {E : Type 0} (r : Result Reply E) → IsOut r short_reply
short_is_out (Ok reply) = inr refl
short_is_out (Err e) = refl

-- a file is found at the path that a question names, or stays
pub own_over : (finds : Finds) (path kept found : Option (List ℕ)) → IsOwn finds path found →
    IsOwnOver finds path kept (file_over found kept)
own_over finds None kept None h = refl
own_over finds None kept (Some bytes) h = absurd h
own_over finds (Some path) kept None h = absurd h
own_over finds (Some path) kept (Some bytes) h = (bytes, h, refl)

-- the files of a question are those that it names, and those that stay
pub are_files : (finds : Finds) (q : QuestionTask) (kept : InputFiles) (found : QuestionFiles) →
    AreFound finds q found → AreFilesOf finds q kept (files_over kept found)
are_files finds q kept found h = record {
  lasting = refl;
  origins = own_over finds _ kept.origins _ h.origins;
  opportunities = own_over finds _ kept.opportunities _ h.opportunities;
  destinations = own_over finds _ kept.destinations _ h.destinations;
}

-- what goes out is an answer, or out of memory
is_reply : {E : Type 0} (finds : Finds) (kept : InputFiles) (base : SettingsData) (block bytes : List ℕ)
    (r : Result Reply E) → IfOk r (λ reply. IsAnswerOf finds kept base block reply.status reply.text.items)
    → IsOut r bytes → IsReply finds kept base block bytes
is_reply finds kept base block bytes (Ok reply) h (inl e) = inr (reply.status, reply.text.items, h, e)
is_reply finds kept base block bytes (Ok reply) h (inr e) = inl e
is_reply finds kept base block bytes (Err fault) h e = inl e

-- a block that was read, and the answer to it
pub turn_of : {E : Type 0} (puts : Option (List ℕ) → Option (List ℕ) → List ℕ → Type 0) (finds : Finds)
    (kept : InputFiles) (base : SettingsData) (known left out put : Option (List ℕ)) (block : Block)
    (r : Result Reply E) → IsBlock known left block
    → ((bytes : List ℕ) → IsReadOf bytes block.words
    → IfOk r (λ reply. IsAnswerOf finds kept base bytes reply.status reply.text.items))
    → ((bytes : List ℕ) × IsOut r bytes × puts out put bytes)
    → IsTurn puts finds kept base known left out put block.is_closed
turn_of puts finds kept base known left out put block r h answers puts_it = record {
  bytes = h.bytes;
  some = h.some;
  consumed = h.consumed;
  closed_is = h.closed_is;
  nothing_after = h.nothing_after;
  ended = h.ended;
  reply = puts_it.0;
  answered = is_reply finds kept base (block_at true h.bytes) puts_it.0 r (answers _ h.words) puts_it.1;
  replied = puts_it.2;
}

-- a conversation, and what is told of its end
pub ends_talk : (finds : Finds) (kept : InputFiles) (base : SettingsData)
    (known left out : Option (List ℕ)) (put : After) (err : Option (List ℕ)) (told : After) (status : ℕ)
    (r : Result Unit TalkFault) → OnOk r (IsWhole finds kept base known left out put.held)
    → IfErr r (λ fault. IsTalk finds kept base known left out put fault) → IsEnd r err told status
    → EndsTalk finds kept base known left out put err told status
ends_talk finds kept base known left out put err told status (Ok u) whole cut end = inl (end.0, whole)
ends_talk finds kept base known left out put err told status (Err fault) whole cut end = inr (fault, cut, end)

-- what is said of files and settings is said of those that are the same
pub same_talk : (finds : Finds) (i j : InputFiles) (s t : SettingsData) (known left out : Option (List ℕ))
    (put : After) (err : Option (List ℕ)) (told : After) (status : ℕ) → i ≡ j → s ≡ t →
    EndsTalk finds i s known left out put err told status → EndsTalk finds j t known left out put err told status
same_talk finds i j s t known left out put err told status files settings h =
    subst (λ f. EndsTalk finds f t known left out put err told status) files
    (subst (λ v. EndsTalk finds i v known left out put err told status) settings h)

-- ---- words among lines

pub words_of_one : (line : List ℕ) → is_word line ≡ true → words_in (line ∷ []) ≡ line ∷ []
words_of_one line e = rw e refl

pub words_of_none : (line : List ℕ) → is_word line ≡ false → words_in (line ∷ []) ≡ []
words_of_none line e = rw e refl

next : (xs : List (Bor (List ℕ))) (i : ℕ) (d : Bor (List ℕ)) → i < length xs →
    words_in (take (suc i) (map (λ l. l.now) xs))
    ≡ words_in (take i (map (λ l. l.now) xs)) ++ words_in ((slice_index_or xs i d).now ∷ [])
next [] i d few = absurd (omega arith)
next (x ∷ xs) zero d few = refl
next (x ∷ xs) (suc i) d few = go (is_word x.now) (next xs i d (omega arith))
  where
    go : (t : Bool) → words_in (take (suc i) (map (λ l. l.now) xs))
        ≡ words_in (take i (map (λ l. l.now) xs)) ++ words_in ((slice_index_or xs i d).now ∷ []) →
        cond t (x.now ∷ words_in (take (suc i) (map (λ l. l.now) xs))) (words_in (take (suc i) (map (λ l. l.now) xs)))
        ≡ cond t (x.now ∷ words_in (take i (map (λ l. l.now) xs))) (words_in (take i (map (λ l. l.now) xs)))
        ++ words_in ((slice_index_or xs i d).now ∷ [])
    go true e = ap (λ l. x.now ∷ l) e
    go false e = e

pub words_next : (xs : List (Bor (List ℕ))) (i : ℕ) (d : Bor (List ℕ)) → i < length xs →
    words_in (take (i + 1) (map (λ l. l.now) xs))
    ≡ words_in (take i (map (λ l. l.now) xs)) ++ words_in ((slice_index_or xs i d).now ∷ [])
words_next xs i d few =
    subst (λ n. words_in (take n (map (λ l. l.now) xs))
    ≡ words_in (take i (map (λ l. l.now) xs)) ++ words_in ((slice_index_or xs i d).now ∷ [])) (suc_is i)
    (next xs i d few)
  where
    suc_is : (n : ℕ) → suc n ≡ n + 1
    suc_is n = omega arith

pub words_step : (xs : List (Bor (List ℕ))) (i : ℕ) (d : Bor (List ℕ)) (old new : List (List ℕ)) → i < length xs →
    words_in (take i (map (λ l. l.now) xs)) ≡ old → new ≡ old ++ words_in ((slice_index_or xs i d).now ∷ []) →
    words_in (take (i + 1) (map (λ l. l.now) xs)) ≡ new
words_step xs i d old new few so_far one =
    words_next xs i d few ∙ ap (λ l. l ++ words_in ((slice_index_or xs i d).now ∷ [])) so_far ∙ sym one

bad_line : (xs : List (Bor (List ℕ))) (i : ℕ) (d : Bor (List ℕ)) → i < length xs →
    HasNoText (words_in ((slice_index_or xs i d).now ∷ [])) → HasNoText (words_in (map (λ l. l.now) xs))
bad_line [] i d few h = absurd (omega arith)
bad_line (x ∷ xs) zero d few h = go (is_word x.now) h
  where
    go : (t : Bool) → HasNoText (cond t (x.now ∷ []) []) →
        HasNoText (cond t (x.now ∷ words_in (map (λ l. l.now) xs)) (words_in (map (λ l. l.now) xs)))
    go true (inl bad) = inl bad
    go true (inr none) = absurd none
    go false none = absurd none
bad_line (x ∷ xs) (suc i) d few h = go (is_word x.now) (bad_line xs i d (omega arith) h)
  where
    go : (t : Bool) → HasNoText (words_in (map (λ l. l.now) xs)) →
        HasNoText (cond t (x.now ∷ words_in (map (λ l. l.now) xs)) (words_in (map (λ l. l.now) xs)))
    go true later = inr later
    go false later = later

-- why one line of some isn't a word
pub tells_all : (fault : BlockFault) (xs : List (Bor (List ℕ))) (i : ℕ) (d : Bor (List ℕ)) → i < length xs →
    TellsWords fault (words_in ((slice_index_or xs i d).now ∷ [])) → TellsWords fault (words_in (map (λ l. l.now) xs))
tells_all fault.NotText xs i d few h = bad_line xs i d few h
tells_all fault.Memory xs i d few h = tt
tells_all fault.TooLong xs i d few h = absurd h

-- ---- whether bytes were read

pub nil_from : (read : List ℕ) → not (is_word read) ≡ true → read ≡ []
nil_from [] e = refl
nil_from (x ∷ xs) e = absurd (let never : false ≡ true = e in cc)

pub some_from : (read : List ℕ) → not (is_word read) ≡ false → read ≡ [] → ⊥
some_from [] e same = let never : true ≡ false = e in cc
some_from (x ∷ xs) e same = cc

-- what holds where a result is an error, or isn't
pub at_err : {T E P : Type 0} {b : Bool} (r : Result T E) → OnErr r P → b ≡ is_err r → b ≡ true → P
at_err (Ok v) h says is = absurd (let never : false ≡ true = sym says ∙ is in cc)
at_err (Err e) h says is = h

pub at_each_err : {T E P : Type 0} (r : Result T E) → P → OnErr r P
at_each_err (Ok v) p = tt
at_each_err (Err e) p = p

pub at_ok : {T E P : Type 0} {b : Bool} (r : Result T E) → OnOk r P → b ≡ is_err r → b ≡ false → P
at_ok (Ok v) h says is = h
at_ok (Err e) h says is = absurd (let never : true ≡ false = sym says ∙ is in cc)
