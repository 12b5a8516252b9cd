-- No line is longer than the limit.
use Rattle.std.proofs.Common.{◌≡◌, ℕ, ◌+◌, ◌*◌, ◌≤◌, List, [], ◌∷◌, length, arith, length-append}
use Rattle.ipc_words.specs.Limits.{max_string_bytes}
use Rattle.ipc_words.specs.Timeouts.{timeouts_of}
use Rattle.ipc_history.specs.CallParts.{CallParts}
use Rattle.ipc_history.specs.declared.entry.Entry.{Entry}
use Rattle.ipc_history.specs.declared.entry.Entry.TheVariants.{Given, Written}
use Rattle.ipc_history.specs.declared.entry.Input.TheVariants.{At, Opened, Called, Exreg, Broke, Moved}
use Rattle.ipc_history.specs.declared.entry.Output.TheVariants.{Began, Turned, Ended, Overflowed, Aborted, Failed}
use Rattle.ipc_lines.specs.Lines.{spaced, call_fields, entry_fields}
use Rattle.ipc_lines.specs.Reading.{IsWord, IsCall, IsReadable}
use Rattle.ipc_lines.specs.Limit.{most_bytes, LinesAreWithinTheLimit}
use Rattle.ipc_lines.proofs.Lengths.{decimal_length, hex_length, id_length, words_length, strings_length, buffers_length}
use Rattle.ipc_lines.proofs.Limits.{masked_word, normal_words}

-- the bytes of fields, with one more for each
abbrev pub room : List (List ℕ) → ℕ
room [] = 0
room (field ∷ fields) = length field + 1 + room fields

spaced_length : (field : List ℕ) (fields : List (List ℕ)) → length (spaced (field ∷ fields)) + 1 ≡ room (field ∷ fields)
spaced_length field [] = omega arith
spaced_length field (next ∷ fields) = omega (arith, spaced_length next fields, length-append field (32 ∷ spaced (next ∷ fields)))

pub spaced_within : (fields : List (List ℕ)) → room fields ≤ most_bytes + 1 → length (spaced fields) ≤ most_bytes
spaced_within [] h = omega arith
spaced_within (field ∷ fields) h = omega (arith, spaced_length field fields)

pub call_room : (thread : ℕ) (call : CallParts) → IsCall thread call → room (call_fields thread call) ≤ 2 * max_string_bytes + 7848
call_room thread call is =
    let timeouts : IsWord (timeouts_of call.receive_period call.send_period) = omega (arith, is.send_period, is.receive_period) in
    omega (
      arith,
      id_length thread is.thread_word,
      id_length call.to is.to,
      id_length call.from is.from,
      hex_length (timeouts_of call.receive_period call.send_period) timeouts,
      hex_length call.tag is.tag,
      id_length call.originator is.originator,
      words_length call.words is.words (normal_words call is.normal),
      strings_length call.strings is.strings,
      buffers_length call.buffers is.buffers,
    )

entry_room : (entry : Entry) → IsReadable entry → room (entry_fields entry) ≤ most_bytes + 1
entry_room (Given (At moment)) h = omega (arith, decimal_length moment h)
entry_room (Given (Opened thread space)) h = omega (arith, id_length thread h.0, decimal_length space h.1)
entry_room (Given (Called number thread call)) h = omega (arith, decimal_length number h.0, call_room thread call h.1)
entry_room (Given (Exreg thread dest control)) h = omega (arith, id_length thread h.0, id_length dest h.1, hex_length control (masked_word control h.2))
entry_room (Given (Broke thread)) h = omega (arith, id_length thread h)
entry_room (Given (Moved number count)) h = omega (arith, decimal_length number h.0, decimal_length count h.1)
entry_room (Written (Began sending receiving)) h = omega (arith, decimal_length sending h.0, decimal_length receiving h.1)
entry_room (Written (Turned receiving thread)) h = omega (arith, decimal_length receiving h.0, id_length thread h.1)
entry_room (Written (Ended sending receiving)) h = omega (arith, decimal_length sending h.0, decimal_length receiving h.1)
entry_room (Written (Overflowed sending receiving offset)) h = omega (arith, decimal_length sending h.0, decimal_length receiving h.1, decimal_length offset h.2)
entry_room (Written (Aborted sending receiving count)) h = omega (arith, decimal_length sending h.0, decimal_length receiving h.1, decimal_length count h.2)
entry_room (Written (Failed number code)) h = omega (arith, decimal_length number h.0, hex_length code h.1)

pub lines_are_within_the_limit : LinesAreWithinTheLimit
lines_are_within_the_limit = λ entry h. spaced_within (entry_fields entry) (entry_room entry h)
