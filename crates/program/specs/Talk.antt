-- A conversation: the answers to the questions of the standard input.
-- "A question is answered the matrix of its study with status 0, or the line that tells why there is none with the
-- status of what it tells: as a run with these words would. Its study has the command line's files and settings, but
-- for those that the question names. Out of memory may be told in place of any answer. An answer depends on its
-- question alone." (The program's own rule.)
use Rattle.std.specs.Prelude.{◌≡◌, ◌≢◌, ◌≤◌, ◌<◌, ◌⊎◌, ◌++◌, ℕ, Bool, true, false, List, [], ◌∷◌, Option, Some, None}
use Rattle.std.specs.Prelude.{Ok, Err, Result, codes, decimal, length, map, option_map, string_bytes, ⊤}
use Rattle.std.specs.Io.KnownBytes.{Appends, Consumes, IsAtEnd}
use Rattle.std.specs.List.{concat}
use Rattle.gtfs_tables.specs.Files.{IsWithinLimit}
use Rattle.clap.specs.Words.{Text}
use Rattle.command_line.specs.Lines.{line, line_of, no_memory, path_rest, read_status, status_of}
use Rattle.outputs.specs.Outputs.{After, IsTold}
use Rattle.command_line.specs.Questions.{Asks, IsQuestionLine, TellsQuestion, question_status_of}
use Rattle.command_line.specs.declared.files.ReadFault.{ReadFault}
use Rattle.command_line.specs.declared.statuses.TheConstants.{DONE, NOT_MOVED, REFUSED}
use Rattle.command_line.specs.declared.task.QuestionTask.{QuestionTask}
use Rattle.command_line.specs.declared.task.WordFault.{WordFault}
use Rattle.matrix_text.specs.Prefixes.{PutsPrefix}
use Rattle.studies.specs.Inputs.{InputFiles}
use Rattle.studies.specs.Kept.{lasting_files}
use Rattle.studies.specs.NamedFile.{NamedBytes}
use Rattle.studies.specs.Settings.{SettingsData}
use Rattle.studies.specs.Study.{IsStudyText, TellsBy}
use Rattle.studies.specs.declared.fault.StudyFault.{StudyFault}
use Rattle.program.specs.Blocks.{AreBlocks, HasNoText, block_at, is_closed, rest_at, words_of}
use Rattle.program.specs.Gates.{told_anything, works_at_each}
use Rattle.program.specs.Files.{Ask, Finds, IsFirstUnread, IsOwn, own_asks}
use Rattle.program.specs.declared.question_files.QuestionFiles.{QuestionFiles}
use Rattle.program.specs.declared.replies.Reply.{Reply}
use Rattle.program.specs.declared.talk.TalkFault.{TalkFault}
use Rattle.program.specs.declared.talk.TalkFault.TheVariants as stop
use Rattle.program.specs.declared.unread.Unread.{Unread}
use Rattle.program.specs.declared.unread.Unread.TheVariants as unread
use Rattle.program.specs.declared.blocks.TheConstants.{MOST_QUESTION_BYTES}

-- ---- the files of a question

-- the paths that a question asks for, in their order
abbrev pub question_asks : QuestionTask → List Ask
question_asks q =
    own_asks (option_map string_bytes q.origins) ++ (own_asks (option_map string_bytes q.opportunities) ++ own_asks
    (option_map string_bytes q.destinations))

-- a file is found at the path that the question names, or is the one that was read at the start
abbrev pub IsOwnOver : Finds → Option (List ℕ) → Option (List ℕ) → Option (List ℕ) → Type 0
IsOwnOver finds None kept file = file ≡ kept
IsOwnOver finds (Some path) kept file = (bytes : List ℕ) × finds path (Ok (Some bytes)) × (file ≡ Some bytes)

-- the files of a question's study: those that were read at the start, but for its own
pub record AreFilesOf (finds : Finds) (q : QuestionTask) (kept files : InputFiles) : Type 0 where
  pub lasting : lasting_files files ≡ lasting_files kept
  pub origins : IsOwnOver finds (option_map string_bytes q.origins) kept.origins files.origins
  pub opportunities : IsOwnOver finds (option_map string_bytes q.opportunities) kept.opportunities files.opportunities
  pub destinations : IsOwnOver finds (option_map string_bytes q.destinations) kept.destinations files.destinations

-- ---- the answer to a question, its status and its text

-- its words aren't read
abbrev pub IsUnread : List ℕ → ℕ → List ℕ → Type 0
IsUnread block status text = (status ≡ REFUSED)
    × (((MOST_QUESTION_BYTES < length block) × (text ≡ line (codes "question: too long")))
    ⊎ (HasNoText (words_of block) × (text ≡ line (codes "words that are not UTF-8"))))

-- its words ask for nothing
pub record IsUnasked (base : SettingsData) (words : List Text) (status : ℕ) (text : List ℕ) : Type 0 where
  pub fault : WordFault
  pub told : TellsQuestion fault words base
  pub status_is : status ≡ question_status_of fault
  pub line_is : IsQuestionLine fault text

-- one of its files isn't read
pub record IsUnfound (finds : Finds) (q : QuestionTask) (status : ℕ) (text : List ℕ) : Type 0 where
  pub path : List ℕ
  pub fault : ReadFault
  pub first : IsFirstUnread finds (question_asks q) path fault
  pub status_is : status ≡ read_status fault
  pub line_is : text ≡ line (path_rest path fault)

-- its study is refused, or isn't finished
pub record IsRefusal (files : InputFiles) (s : SettingsData) (status : ℕ) (text : List ℕ) : Type 0 where
  pub fault : StudyFault
  pub told : TellsBy works_at_each told_anything fault files s
  pub status_is : status ≡ status_of fault
  pub line_is : text ≡ line_of fault (map (λ (f : NamedBytes). f.name) files.scenarios)

-- the matrix of its study, or why there is none
abbrev pub IsStudyAnswer : InputFiles → SettingsData → ℕ → List ℕ → Type 0
IsStudyAnswer files s status text = ((status ≡ DONE) × IsStudyText files s text) ⊎ IsRefusal files s status text

-- of what its words ask for
abbrev pub IsTaskAnswer : Finds → InputFiles → QuestionTask → ℕ → List ℕ → Type 0
IsTaskAnswer finds kept q status text =
    IsUnfound finds q status text
    ⊎ ((files : InputFiles) × AreFilesOf finds q kept files × IsStudyAnswer files q.settings status text)

abbrev pub IsWordsAnswer : Finds → InputFiles → SettingsData → List Text → ℕ → List ℕ → Type 0
IsWordsAnswer finds kept base words status text =
    IsUnasked base words status text
    ⊎ ((q : QuestionTask) × Asks words base q × IsTaskAnswer finds kept q status text)

-- of a block of the input, where these files and settings are the command line's
abbrev pub IsAnswerOf : Finds → InputFiles → SettingsData → List ℕ → ℕ → List ℕ → Type 0
IsAnswerOf finds kept base block status text =
    IsUnread block status text
    ⊎ ((length block ≤ MOST_QUESTION_BYTES) × IsWordsAnswer finds kept base (words_of block) status text)

-- ---- answers as they go out

-- a line with the status and with the length of the text in bytes, and the text
abbrev pub head_of : ℕ → List ℕ → List ℕ
head_of status text = codes "answer " ++ decimal status ++ codes " " ++ decimal (length text) ++ codes "\n"

abbrev pub reply_of : ℕ → List ℕ → List ℕ
reply_of status text = head_of status text ++ text

abbrev pub short_reply : List ℕ
short_reply = codes "answer 3 19\n" ++ line no_memory

-- the answer to a block, or out of memory
abbrev pub IsReply : Finds → InputFiles → SettingsData → List ℕ → List ℕ → Type 0
IsReply finds kept base block reply = (reply ≡ short_reply)
    ⊎ ((status : ℕ) × (text : List ℕ) × IsAnswerOf finds kept base block status text × (reply ≡ reply_of status text))

-- one for each block, in their order, each as if nothing else were asked
abbrev pub AreReplies : Finds → InputFiles → SettingsData → List (List ℕ) → List (List ℕ) → Type 0
AreReplies finds kept base [] [] = ⊤
AreReplies finds kept base (block ∷ blocks) (reply ∷ replies) =
    IsReply finds kept base block reply × AreReplies finds kept base blocks replies
AreReplies finds kept base [] (reply ∷ replies) = ⊥
AreReplies finds kept base (block ∷ blocks) [] = ⊥

-- ---- the parts of an answer

-- the bytes of a file, if there is one, and else those that stay
abbrev pub file_over : Option (List ℕ) → Option (List ℕ) → Option (List ℕ)
file_over None stays = stays
file_over (Some bytes) stays = Some bytes

-- the files of a question, which names those that are found
abbrev pub files_over : InputFiles → QuestionFiles → InputFiles
files_over kept found = record kept {
  origins = file_over (option_map (λ bytes. bytes.items) found.origins) kept.origins;
  opportunities = file_over (option_map (λ bytes. bytes.items) found.opportunities) kept.opportunities;
  destinations = file_over (option_map (λ bytes. bytes.items) found.destinations) kept.destinations;
}

-- the files that a question names are found
pub record AreFound (finds : Finds) (q : QuestionTask) (found : QuestionFiles) : Type 0 where
  pub origins : IsOwn finds (option_map string_bytes q.origins) (option_map (λ bytes. bytes.items) found.origins)
  pub opportunities : IsOwn finds (option_map string_bytes q.opportunities)
      (option_map (λ bytes. bytes.items) found.opportunities)
  pub destinations : IsOwn finds (option_map string_bytes q.destinations)
      (option_map (λ bytes. bytes.items) found.destinations)

-- ... and keep the limit of an input file
pub record AreWithinLimit (found : QuestionFiles) : Type 0 where
  pub origins : IsWithinLimit (option_map (λ bytes. bytes.items) found.origins)
  pub opportunities : IsWithinLimit (option_map (λ bytes. bytes.items) found.opportunities)
  pub destinations : IsWithinLimit (option_map (λ bytes. bytes.items) found.destinations)

-- the status and the line of a file that isn't read
abbrev pub TellsUnread : Unread → ℕ → List ℕ → Type 0
TellsUnread (unread.Feed path fault) status text =
    (status ≡ read_status fault) × (text ≡ line (path_rest (string_bytes path) fault))
TellsUnread (unread.Own path fault) status text =
    (status ≡ read_status fault) × (text ≡ line (path_rest path.now fault))
TellsUnread unread.Memory status text = ⊥

-- an answer, or out of memory
abbrev pub IsOut : {E : Type 0} → Result Reply E → List ℕ → Type 0
IsOut (Ok reply) bytes = (bytes ≡ reply_of reply.status reply.text.items) ⊎ (bytes ≡ short_reply)
IsOut (Err e) bytes = bytes ≡ short_reply

-- ---- one turn

-- a block is read, its answer is out as far as `puts` says, and the input goes on if an empty line ended the block
pub record IsTurn (puts : Option (List ℕ) → Option (List ℕ) → List ℕ → Type 0) (finds : Finds) (kept : InputFiles)
    (base : SettingsData) (known left : Option (List ℕ)) (out put : Option (List ℕ)) (more : Bool) : Type 0 where
  pub bytes : List ℕ
  pub some : bytes ≢ []
  pub consumed : Consumes known left bytes
  pub closed_is : is_closed true bytes ≡ more
  pub nothing_after : rest_at true bytes ≡ []
  pub ended : more ≡ false → IsAtEnd left
  pub reply : List ℕ
  pub answered : IsReply finds kept base (block_at true bytes) reply
  pub replied : puts out put reply

-- so it is, or the input is at its end
abbrev pub IsStep : Finds → InputFiles → SettingsData → Option (List ℕ) → Option (List ℕ) → Option (List ℕ) →
    Option (List ℕ) → Bool → Type 0
IsStep finds kept base known left out put more =
    IsTurn Appends finds kept base known left out put more
    ⊎ ((more ≡ false) × Consumes known left [] × IsAtEnd left × (put ≡ out))

-- a call of the output broke, so the answer may not be out whole; or nothing was read and nothing is out
abbrev pub IsStop : Finds → InputFiles → SettingsData → Option (List ℕ) → Option (List ℕ) → Option (List ℕ) → After →
    TalkFault → Type 0
IsStop finds kept base known left out put stop.Write =
    put.broke × ((more : Bool) × IsTurn PutsPrefix finds kept base known left out put.held more)
IsStop finds kept base known left out put stop.Read = ((lost : List ℕ) × Consumes known left lost) × (put.held ≡ out)

-- ---- what a conversation leaves behind

-- the input is read to its end, and each of its blocks is answered
pub record IsWhole (finds : Finds) (kept : InputFiles) (base : SettingsData) (known left : Option (List ℕ))
    (out put : Option (List ℕ)) : Type 0 where
  pub bytes : List ℕ
  pub consumed : Consumes known left bytes
  pub ended : IsAtEnd left
  pub blocks : List (List ℕ)
  pub blocks_are : AreBlocks bytes blocks
  pub replies : List (List ℕ)
  pub answered : AreReplies finds kept base blocks replies
  pub whole : Appends out put (concat replies)

-- the input is read up to the end of a block, and the answers to the blocks are out as far as the output took them
pub record IsCut (finds : Finds) (kept : InputFiles) (base : SettingsData) (known left : Option (List ℕ))
    (out put : Option (List ℕ)) : Type 0 where
  pub bytes : List ℕ
  pub consumed : Consumes known left bytes
  pub blocks : List (List ℕ)
  pub blocks_are : AreBlocks bytes blocks
  pub replies : List (List ℕ)
  pub answered : AreReplies finds kept base blocks replies
  pub part : PutsPrefix out put (concat replies)

-- a read failed after some blocks that are answered, and after bytes that are lost
pub record IsBroken (finds : Finds) (kept : InputFiles) (base : SettingsData) (known left : Option (List ℕ))
    (out put : Option (List ℕ)) : Type 0 where
  pub bytes : List ℕ
  pub lost : List ℕ
  pub consumed : Consumes known left (bytes ++ lost)
  pub blocks : List (List ℕ)
  pub blocks_are : AreBlocks bytes blocks
  pub replies : List (List ℕ)
  pub answered : AreReplies finds kept base blocks replies
  pub whole : Appends out put (concat replies)

-- what a conversation leaves of its input and its output, by why it ended: a call of the output broke, or a read failed
abbrev pub IsTalk : Finds → InputFiles → SettingsData → Option (List ℕ) → Option (List ℕ) → Option (List ℕ) → After →
    TalkFault → Type 0
IsTalk finds kept base known left out put stop.Write = put.broke × IsCut finds kept base known left out put.held
IsTalk finds kept base known left out put stop.Read = IsBroken finds kept base known left out put.held

-- why a conversation ended before its input did, if it did, is told
abbrev pub IsEnd : Result Unit TalkFault → Option (List ℕ) → After → ℕ → Type 0
IsEnd (Ok _) err told status = (status ≡ DONE) × (told.held ≡ err)
IsEnd (Err stop.Write) err told status = (status ≡ NOT_MOVED) × IsTold err told (line (codes "write fault"))
IsEnd (Err stop.Read) err told status =
    (status ≡ NOT_MOVED) × IsTold err told (line (codes "standard input: read fault"))

-- the conversation is whole; or an answer can't be put out, or the input can't be read, and that is told
abbrev pub EndsTalk : Finds → InputFiles → SettingsData → Option (List ℕ) → Option (List ℕ) → Option (List ℕ) → After →
    Option (List ℕ) → After → ℕ → Type 0
EndsTalk finds kept base known left out put err told status =
    ((status ≡ DONE) × IsWhole finds kept base known left out put.held)
    ⊎ ((fault : TalkFault) × IsTalk finds kept base known left out put fault × IsEnd (Err fault) err told status)
