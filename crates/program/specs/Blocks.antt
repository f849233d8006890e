-- The questions of a conversation, as they stand in the bytes of the standard input.
-- "A question is a block of lines, one word a line, and ends with an empty line or where the input ends. One of more
-- than 65,536 bytes isn't read, and neither is one with a word that isn't UTF-8." (The program's own rule.) Bytes are
-- ASCII: 10 is LF.
use Rattle.std.specs.Prelude.{◌≡◌, ◌≢◌, ◌≤◌, ◌<◌, ◌⊎◌, ◌==◌, ◌&&◌, ℕ, Bool, true, false, not, List, [], ◌∷◌, map}
use Rattle.std.specs.Prelude.{length, Option, Some, None, Result, Ok, Err, String, Vec, ⊤, string_bytes, if◌then◌else◌}
use Rattle.std.specs.Io.KnownBytes.{Consumes, IsAtEnd}
use Rattle.std.specs.List.{filter, slice_split}
use Rattle.std.specs.Str.{IsUtf8}
use Rattle.std.specs.declared.alloc.Global.{Global}
use Rattle.program.specs.declared.blocks.Block.{Block}
use Rattle.program.specs.declared.blocks.BlockFault.{BlockFault}
use Rattle.program.specs.declared.blocks.BlockFault.TheVariants as fault
use Rattle.program.specs.declared.blocks.Gathered.{Gathered}
use Rattle.program.specs.declared.blocks.Gathered.TheVariants as gathered
use Rattle.program.specs.declared.blocks.TheConstants.{MOST_QUESTION_BYTES}

-- ---- blocks in bytes; `begins` says whether the first byte begins a line

-- the bytes before the first empty line
abbrev pub block_at : (begins : Bool) → List ℕ → List ℕ
block_at begins [] = []
block_at begins (b ∷ bs) = if begins && (b == 10) then [] else b ∷ block_at (b == 10) bs

-- the bytes after the first empty line
abbrev pub rest_at : (begins : Bool) → List ℕ → List ℕ
rest_at begins [] = []
rest_at begins (b ∷ bs) = if begins && (b == 10) then bs else rest_at (b == 10) bs

-- these are the blocks of the bytes, one after another
abbrev pub AreBlocks : List ℕ → List (List ℕ) → Type 0
AreBlocks bytes [] = bytes ≡ []
AreBlocks bytes (block ∷ blocks) =
    (bytes ≢ []) × (block ≡ block_at true bytes) × AreBlocks (rest_at true bytes) blocks

-- whether an empty line comes
abbrev pub is_closed : (begins : Bool) → List ℕ → Bool
is_closed begins [] = false
is_closed begins (b ∷ bs) = if begins && (b == 10) then true else is_closed (b == 10) bs

-- ---- words in a block

abbrev pub is_word : List ℕ → Bool
is_word [] = false
is_word (b ∷ bs) = true

-- the lines of bytes that aren't empty
abbrev pub words_in : List (List ℕ) → List (List ℕ)
words_in lines = filter is_word lines

-- the words of a block
abbrev pub words_of : List ℕ → List (List ℕ)
words_of block = words_in (slice_split (λ b. b == 10) block)

-- one of the words isn't UTF-8
abbrev pub HasNoText : List (List ℕ) → Type 0
HasNoText [] = ⊥
HasNoText (word ∷ words) = (IsUtf8 word → ⊥) ⊎ HasNoText words

-- why no words are read of a block
abbrev pub TellsBlock : BlockFault → List ℕ → Type 0
TellsBlock fault.TooLong block = MOST_QUESTION_BYTES < length block
TellsBlock fault.NotText block = (length block ≤ MOST_QUESTION_BYTES) × HasNoText (words_of block)
TellsBlock fault.Memory block = ⊤

-- what is read of a block
abbrev pub IsReadOf : List ℕ → Result (Vec (String Global) Global) BlockFault → Type 0
IsReadOf block (Ok words) = (length block ≤ MOST_QUESTION_BYTES) × (map string_bytes words.items ≡ words_of block)
IsReadOf block (Err e) = TellsBlock e block

-- ---- what one reading of the input gives

-- a byte, or none at the input's end
abbrev pub IsByte : Option (List ℕ) → Option (List ℕ) → Option ℕ → Type 0
IsByte known left None = Consumes known left [] × IsAtEnd left
IsByte known left (Some byte) = Consumes known left (byte ∷ [])

-- these bytes, as far as they may be kept
abbrev pub Gathers : List ℕ → Gathered → Type 0
Gathers bytes (gathered.Bytes kept) = (length bytes ≤ MOST_QUESTION_BYTES) × (kept.items ≡ bytes)
Gathers bytes gathered.TooMany = MOST_QUESTION_BYTES < length bytes
Gathers bytes gathered.Memory = 1 ≤ length bytes

-- a block, whose bytes are all that is read; where no empty line ends them the input does
pub record IsBlock (known left : Option (List ℕ)) (b : Block) : Type 0 where
  pub bytes : List ℕ
  pub some : bytes ≢ []
  pub consumed : Consumes known left bytes
  pub closed_is : is_closed true bytes ≡ b.is_closed
  pub nothing_after : rest_at true bytes ≡ []
  pub words : IsReadOf (block_at true bytes) b.words
  pub ended : b.is_closed ≡ false → IsAtEnd left

-- the next block, or none at the input's end
abbrev pub IsNext : Option (List ℕ) → Option (List ℕ) → Option Block → Type 0
IsNext known left None = Consumes known left [] × IsAtEnd left
IsNext known left (Some b) = IsBlock known left b

-- the block that the input's end ended, if it has a byte
abbrev pub IsLast : List ℕ → Option Block → Type 0
IsLast bytes None = bytes ≡ []
IsLast bytes (Some b) = (bytes ≢ []) × (b.is_closed ≡ false) × IsReadOf bytes b.words

-- why a line isn't a word
abbrev pub TellsWord : BlockFault → List ℕ → Type 0
TellsWord fault.NotText line = IsUtf8 line → ⊥
TellsWord fault.Memory line = ⊤
TellsWord fault.TooLong line = ⊥

-- why the words of a block aren't had
abbrev pub TellsWords : BlockFault → List (List ℕ) → Type 0
TellsWords fault.NotText words = HasNoText words
TellsWords fault.Memory words = ⊤
TellsWords fault.TooLong words = ⊥
