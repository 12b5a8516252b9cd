-- A message of untyped words and strings, laid out for its frame.
use Rattle.std.specs.Prelude.{ℕ, ◌+◌, ◌*◌, ◌^◌, List, ◌++◌, false, length, Option, Some, None, nat_lt, nat_le, if◌then◌else◌}
use Rattle.std.specs.List.{concat}
use Rattle.ipc_words.specs.Limits.{max_message_words}
use Rattle.ipc_words.specs.TagFields.{tag_of}
use Rattle.ipc_items.specs.Laws.{simple_words}
use Rattle.ipc_client.specs.Messages.{MessageParts}
use Rattle.ipc_client.specs.declared.message_fault.MessageFault.{MessageFault}
use Rattle.ipc_client.specs.declared.message_fault.MessageFault.TheVariants.{TooManyWords, WideLabel}

-- the untyped words, then a simple item for each string; the strings lie end to end in the payload
abbrev pub message_of : ℕ → List ℕ → List (List ℕ) → MessageParts
message_of label words strings = record {
  tag = tag_of (record {
    untyped = length words;
    typed = 2 * length strings;
    propagated = false;
    redirected = false;
    crossed = false;
    failed = false;
    label = label;
  });
  sender = 0;
  words = words ++ simple_words 0 strings;
  payload = concat strings;
}

-- more words than MR1 to MR63 hold, each string taking two; else a label of more than 48 bits
abbrev pub message_fault : ℕ → List ℕ → List (List ℕ) → Option MessageFault
message_fault label words strings =
    (if nat_lt max_message_words (length words + 2 * length strings) then Some TooManyWords
    else if nat_le (2 ^ 48) label then Some WideLabel else None)
