-- Room for the lines of paths.
use Rattle.std.proofs.Common.{◌≤◌, ◌+◌, ◌∷◌, ℕ, List, [], inl, inr, length, string_bytes, subst, sym}
use Rattle.command_line.specs.declared.files.ReadFault.{ReadFault}
use Rattle.program.specs.Files.{Ask, Finds, IsFirstUnread, NamesUnread}
use Rattle.program.specs.Rooms.{HasRoom, HaveRoom}
use Rattle.program.specs.declared.line_room.TheConstants.{MOST_BESIDE_PATH}
use Rattle.program.specs.declared.unread.Unread.{Unread}
use Rattle.program.specs.declared.unread.Unread.TheVariants as unread

-- room for the line of one of these paths
of_first : (finds : Finds) (asks : List Ask) (path : List ℕ) (fault : ReadFault) (room : ℕ) → HaveRoom room asks →
    IsFirstUnread finds asks path fault → length path + MOST_BESIDE_PATH ≤ room
of_first finds [] path fault room fits h = absurd h
of_first finds (ask ∷ asks) path fault room fits (inl h) =
    subst (λ p. length p + MOST_BESIDE_PATH ≤ room) (sym h.0) fits.0
of_first finds (ask ∷ asks) path fault room fits (inr h) = of_first finds asks path fault room fits.1 h.1

pub of_unread : (finds : Finds) (asks : List Ask) (u : Unread) (room : ℕ) → HaveRoom room asks →
    NamesUnread finds asks u → HasRoom room u
of_unread finds asks (unread.Feed path fault) room fits h =
    of_first finds asks (string_bytes path) fault room fits h
of_unread finds asks (unread.Own path fault) room fits h = of_first finds asks path.now fault room fits h
of_unread finds asks unread.Memory room fits h = h
