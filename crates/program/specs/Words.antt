-- The words that the program is started with.
-- "Each promise is about the words that the host gives: all of them, as they are, in their order." (The program's own
-- rule.)
use Rattle.std.specs.Prelude.{ℕ, List, Result, Ok, Err, String, map, string_bytes}
use Rattle.std.specs.Vec.Iter.{into_iter_items}
use Rattle.std.specs.declared.alloc.Global.{Global}
use Rattle.std.specs.declared.io.Error.{Error}
use Rattle.std.specs.declared.vec.IntoIter.{IntoIter}

-- the words that a host may give, or why they can't be had
abbrev pub Gives : Type 1
Gives = Result (List (List ℕ)) Error → Type 0

-- the words that an iterator has, or the error in place of it
abbrev pub words_of : Result (IntoIter (String Global) Global) Error → Result (List (List ℕ)) Error
words_of (Ok words) = Ok (map string_bytes (into_iter_items words))
words_of (Err e) = Err e
