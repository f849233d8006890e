-- The first file that isn't read, among more paths.
use Rattle.std.proofs.Common.{◌≡◌, ◌<◌, ◌++◌, ◌∷◌, [], List, ℕ, Option, Some, None, ap, arith, drop, get_or, inl, inr}
use Rattle.std.proofs.Common.{length, map, string_bytes, subst, suc, take, zero}
use Rattle.outputs.specs.Outputs.{After}
use Rattle.command_line.specs.declared.files.ReadFault.{ReadFault}
use Rattle.gtfs_tables.specs.Files.{FeedFiles}
use Rattle.studies.specs.NamedFile.{NamedBytes}
use Rattle.program.specs.Files.{Ask, AreScenarios, AreUnread, Finds, IsFeedIn, IsFirstUnread, IsOwn, IsRead}
use Rattle.program.specs.Files.{IsWhyUnread}
use Rattle.program.specs.Files.{NamesUnread, TellsWhyUnread, Needed, feed_asks, own_asks, scenario_asks}
use Rattle.program.specs.declared.unread.Unread.{Unread}
use Rattle.program.specs.declared.unread.Unread.TheVariants as unread

-- the files of all these paths are read
abbrev pub AreRead : Finds → List Ask → Type 0
AreRead finds [] = Unit {0}
AreRead finds (ask ∷ asks) = IsRead finds ask × AreRead finds asks

first_before : (finds : Finds) (ys zs : List Ask) (path : List ℕ) (fault : ReadFault) →
    IsFirstUnread finds ys path fault → IsFirstUnread finds (ys ++ zs) path fault
first_before finds [] zs path fault h = absurd h
first_before finds (y ∷ ys) zs path fault (inl h) = inl h
first_before finds (y ∷ ys) zs path fault (inr h) = inr (h.0, first_before finds ys zs path fault h.1)

first_after : (finds : Finds) (xs ys : List Ask) (path : List ℕ) (fault : ReadFault) → AreRead finds xs →
    IsFirstUnread finds ys path fault → IsFirstUnread finds (xs ++ ys) path fault
first_after finds [] ys path fault read h = h
first_after finds (x ∷ xs) ys path fault read h = inr (read.0, first_after finds xs ys path fault read.1 h)

named_before : (finds : Finds) (ys zs : List Ask) (u : Unread) → NamesUnread finds ys u → NamesUnread finds (ys ++ zs) u
named_before finds ys zs (unread.Feed path fault) h = first_before finds ys zs (string_bytes path) fault h
named_before finds ys zs (unread.Own path fault) h = first_before finds ys zs path.now fault h
named_before finds ys zs unread.Memory h = h

named_after : (finds : Finds) (xs ys : List Ask) (u : Unread) → AreRead finds xs → NamesUnread finds ys u →
    NamesUnread finds (xs ++ ys) u
named_after finds xs ys (unread.Feed path fault) read h = first_after finds xs ys (string_bytes path) fault read h
named_after finds xs ys (unread.Own path fault) read h = first_after finds xs ys path.now fault read h
named_after finds xs ys unread.Memory read h = h

-- among these and further paths
pub before : (finds : Finds) (ys zs : List Ask) (u : Unread) → IsWhyUnread finds ys u → IsWhyUnread finds (ys ++ zs) u
before finds ys zs u (inl h) = inl (named_before finds ys zs u h)
before finds ys zs u (inr short) = inr short

-- after others that are read
pub after : (finds : Finds) (xs ys : List Ask) (u : Unread) → AreRead finds xs → IsWhyUnread finds ys u →
    IsWhyUnread finds (xs ++ ys) u
after finds xs ys u read (inl h) = inl (named_after finds xs ys u read h)
after finds xs ys u read (inr short) = inr short

-- after one that is read
pub later : (finds : Finds) (ask : Ask) (asks : List Ask) (u : Unread) → IsRead finds ask → IsWhyUnread finds asks u →
    IsWhyUnread finds (ask ∷ asks) u
later finds ask asks u read h = after finds (ask ∷ []) asks u (read, tt) h

-- the files of a feed that is read
pub feed_read : (finds : Finds) (folder : List ℕ) (feed : FeedFiles) → IsFeedIn finds folder feed →
    AreRead finds (feed_asks folder)
feed_read finds folder feed f = (
  (_, f.stops),
  (
    (_, f.routes),
    (
      (_, f.calendar),
      (
        (_, f.calendar_dates),
        (
          (_, f.trips),
          (
            (_, f.stop_times),
            ((_, f.frequencies), ((_, f.transfers), tt)),
          ),
        ),
      ),
    ),
  ),
)

-- a file of the analyst's own that is read
pub own_read : (finds : Finds) (path : Option (List ℕ)) (file : Option (List ℕ)) → IsOwn finds path file →
    AreRead finds (own_asks path)
own_read finds None file h = tt
own_read finds (Some path) (Some bytes) h = ((bytes, h), tt)
own_read finds (Some path) None h = absurd h

-- a scenario file after those that are read, and before others
scenario_at : (finds : Finds) (before_it : List (List ℕ)) (path : List ℕ) (rest : List (List ℕ))
    (files : List NamedBytes) (u : Unread)
    → AreScenarios finds before_it files → IsWhyUnread finds (Needed path ∷ []) u →
    IsWhyUnread finds (scenario_asks (before_it ++ path ∷ rest)) u
scenario_at finds [] path rest files u h why = before finds (Needed path ∷ []) (scenario_asks rest) u why
scenario_at finds (p ∷ ps) path rest [] u h why = absurd h
scenario_at finds (p ∷ ps) path rest (f ∷ fs) u h why =
    later finds (Needed p) (scenario_asks (ps ++ path ∷ rest)) u (
      f.bytes,
      h.1,
    ) (scenario_at finds ps path rest fs u h.2 why)

pub scenario_unread : (finds : Finds) (paths before_it : List (List ℕ)) (path : List ℕ) (rest : List (List ℕ))
    (files : List NamedBytes) (u : Unread)
    → before_it ++ path ∷ rest ≡ paths → AreScenarios finds before_it files → IsWhyUnread finds (Needed path ∷ []) u →
    IsWhyUnread finds (scenario_asks paths) u
scenario_unread finds paths before_it path rest files u e h why =
    subst (λ ps. IsWhyUnread finds (scenario_asks ps) u) e (scenario_at finds before_it path rest files u h why)

-- what a reader tells, and what is put out of it
pub told : (finds : Finds) (asks : List Ask) (u : Unread) (err : Option (List ℕ)) (line : After) (status : ℕ) →
    IsWhyUnread finds asks u → TellsWhyUnread u err line status
    → AreUnread finds asks err line status
told finds asks u err line status (inr short) tells =
    inr (subst (λ why. TellsWhyUnread why err line status) short tells)
told finds asks (unread.Feed path fault) err line status (inl first) tells =
    inl (record { path = string_bytes path; fault = fault; first = first; line_is = tells.0; status_is = tells.1 })
told finds asks (unread.Own path fault) err line status (inl first) tells =
    inl (record { path = path.now; fault = fault; first = first; line_is = tells.0; status_is = tells.1 })
told finds asks unread.Memory err line status (inl first) tells = absurd first

-- a list in three parts
pub split_map : {X : Type 0} (f : X → List ℕ) (xs : List X) (i : ℕ) (x : X) → x ≡ get_or xs i x → i < length xs
    → map f (take i xs) ++ f x ∷ map f (drop (suc i) xs) ≡ map f xs
split_map f [] i x e h = absurd (omega arith)
split_map f (y ∷ ys) zero x e h = ap (λ z. f z ∷ map f ys) e
split_map f (y ∷ ys) (suc i) x e h = ap (λ l. f y ∷ l) (split_map f ys i x e (omega arith))
