-- Room for the line of a file that isn't read.
-- "Space for the line about a question's file is allocated before the file is read." (The program's own rule.)
use Rattle.std.specs.Prelude.{◌≡◌, ◌≤◌, ◌+◌, ◌∷◌, ℕ, List, [], Option, Some, None, length, string_bytes, ⊤}
use Rattle.program.specs.Files.{Ask, path_of}
use Rattle.program.specs.declared.line_room.TheConstants.{MOST_BESIDE_PATH}
use Rattle.program.specs.declared.unread.Unread.{Unread}
use Rattle.program.specs.declared.unread.Unread.TheVariants as unread

-- the line of each of these paths fits into `room` bytes
abbrev pub HaveRoom : ℕ → List Ask → Type 0
HaveRoom room [] = ⊤
HaveRoom room (ask ∷ asks) = (length (path_of ask) + MOST_BESIDE_PATH ≤ room) × HaveRoom room asks

-- so does the line of this one
abbrev pub HasRoom : ℕ → Unread → Type 0
HasRoom room (unread.Feed path fault) = length (string_bytes path) + MOST_BESIDE_PATH ≤ room
HasRoom room (unread.Own path fault) = length path.now + MOST_BESIDE_PATH ≤ room
HasRoom room unread.Memory = ⊥

-- the length of a path in bytes, or 0 without a path
abbrev pub IsLengthOf : ℕ → Option (List ℕ) → Type 0
IsLengthOf count None = count ≡ 0
IsLengthOf count (Some path) = count ≡ length path
