-- Our choice (docs/FORMATS.md): the lines of a history and of an outcome. A line is its fields with
-- one space between each two; its newline is not part of it.
use Rattle.std.specs.Prelude.{ℕ, List, [], ◌∷◌, ◌++◌, codes}
use Rattle.std.specs.Fmt.{decimal}
use Rattle.std.specs.List.{join_with_byte, flat_map}
use Rattle.ipc_items.specs.Pieces.{PlacedBytes}
use Rattle.ipc_history.specs.CallParts.{CallParts}
use Rattle.ipc_history.specs.Outcomes.{OutcomeParts, pieces_in}
use Rattle.ipc_history.specs.declared.entry.Entry.{Entry}
use Rattle.ipc_history.specs.declared.entry.Entry.TheVariants.{Given, Written}
use Rattle.ipc_history.specs.declared.entry.Input.TheVariants.{At, Opened, Called, Exreg, Broke, Moved}
use Rattle.ipc_history.specs.declared.entry.Output.TheVariants.{Began, Turned, Ended, Overflowed, Aborted, Failed}
use Rattle.ipc_lines.specs.Texts.{hex_text, id_text, timeouts_text, words_text, strings_text, buffers_text, pieces_text}

-- fields with one space between each two
abbrev pub spaced : List (List ℕ) → List ℕ
spaced fields = join_with_byte 32 fields

-- the fields of a call that are one word each: the thread that calls, to, from, the timeouts, the
-- tag and the originator
abbrev pub scalar_fields : ℕ → CallParts → List (List ℕ)
scalar_fields thread call =
    id_text thread ∷ id_text call.to ∷ id_text call.from
    ∷ timeouts_text call.send_period call.receive_period ∷ hex_text call.tag
    ∷ id_text call.originator ∷ []

-- the words, the strings and the buffers
abbrev pub list_fields : CallParts → List (List ℕ)
list_fields call =
    words_text call.words ∷ strings_text call.strings ∷ buffers_text call.buffers ∷ []

-- CALL, the nine fields of a call
abbrev pub call_fields : ℕ → CallParts → List (List ℕ)
call_fields thread call = scalar_fields thread call ++ list_fields call

abbrev pub call_text : ℕ → CallParts → List ℕ
call_text thread call = spaced (call_fields thread call)

-- the fields of an entry: its name, and what it holds, in order
abbrev pub entry_fields : Entry → List (List ℕ)
entry_fields (Given (At moment)) = codes "at" ∷ decimal moment ∷ []
entry_fields (Given (Opened thread space)) = codes "opened" ∷ id_text thread ∷ decimal space ∷ []
entry_fields (Given (Called number thread call)) =
    codes "called" ∷ decimal number ∷ call_fields thread call
entry_fields (Given (Exreg thread dest control)) =
    codes "exreg" ∷ id_text thread ∷ id_text dest ∷ hex_text control ∷ []
entry_fields (Given (Broke thread)) = codes "broke" ∷ id_text thread ∷ []
entry_fields (Given (Moved number count)) = codes "moved" ∷ decimal number ∷ decimal count ∷ []
entry_fields (Written (Began sending receiving)) =
    codes "began" ∷ decimal sending ∷ decimal receiving ∷ []
entry_fields (Written (Turned receiving thread)) =
    codes "turned" ∷ decimal receiving ∷ id_text thread ∷ []
entry_fields (Written (Ended sending receiving)) =
    codes "ended" ∷ decimal sending ∷ decimal receiving ∷ []
entry_fields (Written (Overflowed sending receiving offset)) =
    codes "overflowed" ∷ decimal sending ∷ decimal receiving ∷ decimal offset ∷ []
entry_fields (Written (Aborted sending receiving count)) =
    codes "aborted" ∷ decimal sending ∷ decimal receiving ∷ decimal count ∷ []
entry_fields (Written (Failed number code)) = codes "failed" ∷ decimal number ∷ hex_text code ∷ []

abbrev pub entry_text : Entry → List ℕ
entry_text entry = spaced (entry_fields entry)

-- the pieces of all strings of an outcome, in order
abbrev pub placed_in : OutcomeParts → List PlacedBytes
placed_in outcome = flat_map (λ placed. placed) (pieces_in outcome)

-- the fields of an outcome that are one word each: the number of the call, the tag, the sender that
-- is shown, the ActualSender and the ErrorCode
abbrev pub told_fields : OutcomeParts → List (List ℕ)
told_fields outcome =
    decimal outcome.call ∷ hex_text outcome.tag ∷ id_text outcome.sender ∷ id_text outcome.actual
    ∷ hex_text outcome.error ∷ []

-- MR1 on, and the pieces of the received strings
abbrev pub received_fields : OutcomeParts → List (List ℕ)
received_fields outcome = words_text outcome.words ∷ pieces_text (placed_in outcome) ∷ []

-- the fields of an outcome
abbrev pub outcome_fields : OutcomeParts → List (List ℕ)
outcome_fields outcome = told_fields outcome ++ received_fields outcome

abbrev pub outcome_text : OutcomeParts → List ℕ
outcome_text outcome = spaced (outcome_fields outcome)
