-- What an encoder lends: the bytes that come next, where they stand in the memory of a string.
use Rattle.std.specs.Prelude.{ℕ, ◌-◌, List, [], ◌∷◌, length, drop, nat_lt, nat_le, if◌then◌else◌}
use Rattle.ipc_items.specs.Pieces.{PlacedBytes}
use Rattle.ipc_frame.specs.declared.encoding.Source.{Source}
use Rattle.ipc_frame.specs.declared.encoding.Source.TheVariants as source
use Rattle.ipc_frame.specs.declared.frame.Frame.TheVariants as frame
use Rattle.ipc_frame.specs.Parts.{pieces_text}
use Rattle.ipc_frame.specs.Replies.{pieces_told}

-- so many of the last bytes of a text; none where it has fewer
abbrev pub lent_last : ℕ → List ℕ → List ℕ
lent_last left text = (if nat_le left (length text) then drop (length text - left) text else [])

-- from a place in the text of pieces on, the rest of the piece's bytes that it is in; none where it
-- is in a pointer or a length
abbrev pub lent_piece : ℕ → List PlacedBytes → List ℕ
lent_piece place [] = []
lent_piece place (piece ∷ pieces) =
    (if nat_lt place 12 then []
    else if nat_lt (place - 12) (length piece.bytes) then drop (place - 12) piece.bytes
    else lent_piece (place - 12 - length piece.bytes) pieces)

-- so many bytes before the end of the text of pieces; none where they are not all of it
abbrev pub lent_pieces : ℕ → List PlacedBytes → List ℕ
lent_pieces left pieces =
    (if nat_le left (length (pieces_text pieces)) then lent_piece (length (pieces_text pieces) - left) pieces
    else [])

-- so many bytes before the end of a frame: of a call's payload, and of the strings of an outcome
abbrev pub lent : Source → ℕ → List ℕ
lent (source.Frame (frame.Ipc ipc)) left = lent_last left ipc.payload
lent (source.Frame _) left = []
lent (source.Outcome version outcome) left = lent_pieces left (pieces_told outcome)
