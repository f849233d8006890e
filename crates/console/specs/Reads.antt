-- The bytes that one read of a file returns.
use Rattle.std.specs.Prelude.{◌≡◌, ◌≤◌, ℕ, Bool, true, false, List, [], Option, length}
use Rattle.std.specs.Io.KnownBytes.{Consumes, IsAtEnd}

-- some bytes; or none, and the file is at its end
abbrev pub IsRead : Option (List ℕ) → Option (List ℕ) → List ℕ → Bool → Type 0
IsRead known left read true = Consumes known left read × (1 ≤ length read)
IsRead known left read false = Consumes known left read × (read ≡ []) × IsAtEnd left
