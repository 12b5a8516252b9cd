-- The call that an IPC frame spells, in normal form, or its first fault: a time point of a phase
-- that is there, then the string items, then the buffer items. Our choice (docs/FORMATS.md).
use Rattle.std.specs.Prelude.{ℕ, ◌*◌, ◌%◌, ◌==◌, ◌&&◌, ◌||◌, Bool, not, nat_lt, List, []}
use Rattle.std.specs.Prelude.{length, take, drop, Option, Some, None, is_none, unwrap_or, Result}
use Rattle.std.specs.Prelude.{Ok, Err, if◌then◌else◌}
use Rattle.ipc_words.specs.MsgTag.{untyped_of, propagates}
use Rattle.ipc_words.specs.ThreadId.{nilthread}
use Rattle.ipc_words.specs.Timeouts.{receive_period, send_period}
use Rattle.ipc_items.specs.StringItem.{string_reading, buffer_reading}
use Rattle.ipc_items.specs.declared.buffer_list.Substring.{Substring}
use Rattle.ipc_items.specs.declared.item_fault.ItemFault.{ItemFault}
use Rattle.ipc_items.specs.declared.item_fault.ItemFault.TheVariants as item
use Rattle.ipc_history.specs.CallParts.{CallParts}
use Rattle.ipc_words.specs.TagFields.{received_tag}
use Rattle.ipc_frame.specs.Parts.{IpcParts}
use Rattle.ipc_frame.specs.declared.fault.FrameFault.{FrameFault}
use Rattle.ipc_frame.specs.declared.fault.FrameFault.TheVariants.{PastWords, ReservedBit}
use Rattle.ipc_frame.specs.declared.fault.FrameFault.TheVariants.{OutsidePayload, TooManyBytes}
use Rattle.ipc_frame.specs.declared.fault.FrameFault.TheVariants.{TimePoint, NoMemory}

-- a fault of items, as a fault of their frame
abbrev pub of_items : ItemFault → FrameFault
of_items item.PastWords = PastWords
of_items item.ReservedBit = ReservedBit
of_items item.OutsidePayload = OutsidePayload
of_items item.TooLong = TooManyBytes
of_items item.NoMemory = NoMemory

-- it has a send phase, a receive phase, and one that accepts strings
abbrev pub sends : IpcParts → Bool
sends ipc = not (ipc.to == nilthread)

abbrev pub receives : IpcParts → Bool
receives ipc = not (ipc.from == nilthread)

abbrev pub accepts_strings : IpcParts → Bool
accepts_strings ipc = receives ipc && (ipc.acceptor % 2 == 1)

-- a phase that is there has a time point
abbrev pub has_time_point : IpcParts → Bool
has_time_point ipc =
    (sends ipc && is_none (send_period ipc.timeouts)) || (receives ipc && is_none (receive_period ipc.timeouts))

-- the period of a phase that is there, else never
abbrev pub period_if : Bool → Option ℕ → ℕ
period_if there period = (if there then unwrap_or period 0 else 0)

-- its strings and its buffer strings, as far as the items of the frame are looked at
abbrev pub strings_in : IpcParts → Result (List (List ℕ)) ItemFault
strings_in ipc =
    if sends ipc then string_reading (drop (untyped_of ipc.tag) ipc.words) ipc.payload else Ok []

abbrev pub buffers_in : IpcParts → Result (List (List Substring)) ItemFault
buffers_in ipc = if accepts_strings ipc then buffer_reading ipc.buffer_words else Ok []

-- in normal form what an absent phase says is left out, r, X and E too, and t counts the strings
abbrev pub normal_tag : IpcParts → ℕ → ℕ
normal_tag ipc strings =
    if sends ipc then received_tag ipc.tag (2 * strings) (propagates ipc.tag) else 0

abbrev pub normal_originator : IpcParts → ℕ
normal_originator ipc = if sends ipc && propagates ipc.tag then ipc.originator else nilthread

abbrev pub normal_words : IpcParts → List ℕ
normal_words ipc = if sends ipc then take (untyped_of ipc.tag) ipc.words else []

-- the call of these strings and buffer strings
unfoldable pub normal_call : IpcParts → List (List ℕ) → List (List Substring) → CallParts
normal_call ipc strings buffers = record {
  to = ipc.to;
  from = ipc.from;
  send_period = period_if (sends ipc) (send_period ipc.timeouts);
  receive_period = period_if (receives ipc) (receive_period ipc.timeouts);
  tag = normal_tag ipc (length strings);
  originator = normal_originator ipc;
  words = normal_words ipc;
  strings = strings;
  buffers = if accepts_strings ipc then Some buffers else None;
}

-- its strings and its buffer strings, or the first fault, of the strings before the buffer strings
abbrev pub both : {A B F : Type 0} → Result A F → Result B F → Result (A × B) F
both (Err fault) second = Err fault
both (Ok a) (Err fault) = Err fault
both (Ok a) (Ok b) = Ok (a, b)

abbrev pub lists_in : IpcParts → Result (List (List ℕ) × List (List Substring)) ItemFault
lists_in ipc = both (strings_in ipc) (buffers_in ipc)

abbrev pub of_lists : IpcParts → Result (List (List ℕ) × List (List Substring)) ItemFault → Result CallParts FrameFault
of_lists ipc (Err fault) = Err (of_items fault)
of_lists ipc (Ok lists) = Ok (normal_call ipc lists.0 lists.1)

unfoldable pub call_of : IpcParts → Result CallParts FrameFault
call_of ipc = if has_time_point ipc then Err TimePoint else of_lists ipc (lists_in ipc)

-- two lists, where no strings are accepted the second one empty
abbrev pub both_lists : {A B F : Type 0} → Result (A × Option (List B)) F → Result (A × List B) F
both_lists (Ok lists) = Ok (lists.0, unwrap_or lists.1 [])
both_lists (Err fault) = Err fault

-- memory is asked for: copies of its words and strings, or its buffer strings
abbrev pub asks_memory : IpcParts → Bool
asks_memory ipc =
    (sends ipc && nat_lt 0 (length ipc.words)) || (accepts_strings ipc && nat_lt 0 (length ipc.buffer_words))
