-- What an output of the program holds after a text was put to it.
-- "A text is out whole; or a call of the output failed or took nothing, and a part of the text is out." (The program's
-- own rule.)
use Rattle.std.specs.Prelude.{◌≡◌, ◌⊎◌, ℕ, List, Option, Result, Ok, Err, ⊤}
use Rattle.std.specs.Io.KnownBytes.{Appends}
use Rattle.matrix_text.specs.Prefixes.{PutsPart}

-- a call took nothing, or failed
abbrev pub TakesNone : {E : Type 0} → Result ℕ E → Type 0
TakesNone (Ok taken) = taken ≡ 0
TakesNone (Err e) = ⊤

-- an output after some calls: the bytes that it holds, where they are known, and that one of the calls broke
pub record After : Type 1 where
  pub held : Option (List ℕ)
  pub broke : Type 0

abbrev pub after : Option (List ℕ) → Type 0 → After
after held broke = record { held = held; broke = broke }

-- a call broke, and no more than a part of the text is out
abbrev pub IsLost : Option (List ℕ) → After → List ℕ → Type 0
IsLost old new text = new.broke × PutsPart old new.held text

-- the whole text is out, or it is lost in part
abbrev pub IsTold : Option (List ℕ) → After → List ℕ → Type 0
IsTold old new text = Appends old new.held text ⊎ IsLost old new text
