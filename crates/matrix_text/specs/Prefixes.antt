-- What a writer holds after a text was put out in part.
use Rattle.std.specs.Prelude.{◌≡◌, ◌≤◌, ℕ, List, ◌++◌, Option, length}
use Rattle.std.specs.Io.KnownBytes.{Appends}

-- some prefix of the text is out, and nothing else
pub record PutsPrefix (old new : Option (List ℕ)) (text : List ℕ) : Type 0 where
  pub out : List ℕ
  pub left : List ℕ
  pub split : out ++ left ≡ text
  pub appended : Appends old new out

-- no more than a part of the text is out: some bytes at its end are not
pub record PutsPart (old new : Option (List ℕ)) (text : List ℕ) : Type 0 where
  pub out : List ℕ
  pub left : List ℕ
  pub split : out ++ left ≡ text
  pub some_left : 1 ≤ length left
  pub appended : Appends old new out
