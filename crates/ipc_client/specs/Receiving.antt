-- What an answer brings (L4 X.2 manual, Ipc: output parameters).
use Rattle.std.specs.Prelude.{ℕ, ◌/◌, List, [], ◌∷◌, take, drop, Result, Ok, Err, if◌then◌else◌}
use Rattle.ipc_words.specs.MsgTag.{has_failed, untyped_of}
use Rattle.ipc_items.specs.Pieces.{joined}
use Rattle.ipc_frame.specs.Parts.{IpcrParts}
use Rattle.ipc_client.specs.declared.answer.Answer.{Answer}
use Rattle.ipc_client.specs.declared.answer.Answer.TheVariants as answer
use Rattle.ipc_client.specs.declared.answer.Failure.{Failure}
use Rattle.ipc_client.specs.declared.answer.Failure.TheVariants as failure

-- the message of an answer, or why there is none
abbrev pub message_in : Answer → Result IpcrParts Failure
message_in (answer.Outcome ipcr) = (if has_failed ipcr.tag then Err (failure.Failed ipcr.error) else Ok ipcr)
message_in (answer.Refused number) = Err (failure.Refused number)

-- the strings of simple items: each takes so many of the bytes as bits 10 to 63 of its descriptor
-- say
abbrev pub item_strings : List ℕ → List ℕ → List (List ℕ)
item_strings [] bytes = []
item_strings (descriptor ∷ []) bytes = []
item_strings (descriptor ∷ pointer ∷ items) bytes =
    take (descriptor / 1024) bytes ∷ item_strings items (drop (descriptor / 1024) bytes)

-- the strings of a message: its typed words are their items, and its pieces have their bytes
abbrev pub received_strings : IpcrParts → List (List ℕ)
received_strings parts = item_strings (drop (untyped_of parts.tag) parts.words) (joined parts.pieces)
