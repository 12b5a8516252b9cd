-- Six worked rows: what is kept, and so how many entries are dropped and left.
use Rattle.std.specs.Prelude.{◌≡◌, ℕ, List, [], ◌∷◌, ◌++◌, Option, Some, None}
use Rattle.ipc_words.specs.ThreadId.{nilthread, anythread, id_of}
use Rattle.ipc_items.specs.declared.buffer_list.Substring.{Substring}
use Rattle.ipc_history.specs.CallParts.{CallParts}
use Rattle.ipc_history.specs.Calls.{calls_made}
use Rattle.ipc_history.specs.declared.entry.Entry.{Entry}
use Rattle.ipc_history.specs.declared.entry.Entry.TheVariants.{Given, Written}
use Rattle.ipc_history.specs.declared.entry.Input.TheVariants.{At, Opened, Called, Broke, Moved}
use Rattle.ipc_history.specs.declared.entry.Output.TheVariants.{Began, Ended, Failed}
use Rattle.ipc_compact.specs.Compact.{kept_of, further_calls, last_version, dropped_of}

abbrev opened : ℕ → ℕ → Entry
opened k v = Given (Opened (id_of k v) 1)

abbrev sends : ℕ → ℕ → List ℕ → List (List ℕ) → CallParts
sends to tag words strings = record {
  to = to;
  from = nilthread;
  send_period = 0;
  receive_period = 0;
  tag = tag;
  originator = nilthread;
  words = words;
  strings = strings;
  buffers = None;
}

abbrev receives : ℕ → Option (List (List Substring)) → CallParts
receives period buffers = record {
  to = nilthread;
  from = anythread;
  send_period = 0;
  receive_period = period;
  tag = 0;
  originator = nilthread;
  words = [];
  strings = [];
  buffers = buffers;
}

abbrev neither : CallParts
neither = record {
  to = nilthread;
  from = nilthread;
  send_period = 0;
  receive_period = 0;
  tag = 0;
  originator = nilthread;
  words = [];
  strings = [];
  buffers = None;
}

abbrev calls_in : ℕ → ℕ → ℕ → CallParts → Entry
calls_in n k v call = Given (Called n (id_of k v) call)

-- a message of one word is received; nothing taken: all is kept; both taken: the opens alone, and
-- again
abbrev received : List Entry
received =
    opened 1 1 ∷ opened 2 1 ∷ calls_in 1 1 1 (receives 0 None) ∷ calls_in 2 2 1 (sends (id_of 1 1) 1 (7 ∷ []) [])
    ∷ Written (Began 2 1) ∷ Written (Ended 2 1) ∷ []

abbrev pub ReceivedRow : Type 0
ReceivedRow =
    (kept_of received [] ≡ received) × (kept_of received (1 ∷ 2 ∷ []) ≡ opened 1 1 ∷ opened 2 1 ∷ []) × (calls_made received ≡ 2)
    × (dropped_of received (kept_of received (1 ∷ 2 ∷ [])) 1 ≡ 1)

-- a send waits for a thread that breaks, and fails; the number opens again, and its thread waits
abbrev failed : List Entry
failed =
    opened 1 1 ∷ opened 2 1 ∷ calls_in 1 1 1 (sends (id_of 2 1) 1 (7 ∷ []) []) ∷ Given (Broke (id_of 2 1))
    ∷ Written (Failed 1 0x4) ∷ opened 2 2 ∷ calls_in 2 2 2 (receives 0 None) ∷ []

abbrev pub BrokenRow : Type 0
BrokenRow =
    (kept_of failed [] ≡ opened 1 1 ∷ calls_in 1 1 1 (sends (id_of 2 1) 1 (7 ∷ []) []) ∷ Written (Failed 1 0x4)
    ∷ opened 2 2 ∷ calls_in 2 2 2 (receives 0 None) ∷ [])
    × (kept_of failed (1 ∷ []) ≡ opened 1 1 ∷ opened 2 2 ∷ calls_in 2 2 2 (receives 0 None) ∷ [])
    × (kept_of (failed ++ Given (Broke (id_of 2 2)) ∷ []) (1 ∷ []) ≡ opened 1 1 ∷ [])
    × (last_version (failed ++ Given (Broke (id_of 2 2)) ∷ []) 2 ≡ 2)

-- a call with neither phase, whose outcome was taken
abbrev pub NeitherRow : Type 0
NeitherRow = kept_of (opened 1 1 ∷ calls_in 1 1 1 neither ∷ []) (1 ∷ []) ≡ opened 1 1 ∷ []

-- moments: the last one, and the one before a call that waits
abbrev timed : List Entry
timed = opened 1 1 ∷ opened 2 1 ∷ Given (At 5) ∷ calls_in 1 1 1 neither ∷ []

abbrev later : List Entry
later = calls_in 2 1 1 (receives 0xa None) ∷ Given (At 8) ∷ calls_in 3 2 1 neither ∷ []

abbrev pub MomentsRow : Type 0
MomentsRow =
    (kept_of timed (1 ∷ []) ≡ opened 1 1 ∷ opened 2 1 ∷ Given (At 5) ∷ [])
    × (kept_of (timed ++ later) (1 ∷ 3 ∷ [])
    ≡ opened 1 1 ∷ opened 2 1 ∷ Given (At 5) ∷ calls_in 2 1 1 (receives 0xa None) ∷ Given (At 8) ∷ [])

-- strings that were copied: the sender has taken its outcome, and its call is kept for its message
-- alone
abbrev buffers : List (List Substring)
buffers =
    (record { length = 3; pointer = 0x1000 } ∷ [])
    ∷ (record { length = 2; pointer = 0x2000 } ∷ record { length = 3; pointer = 0x3000 } ∷ []) ∷ []

abbrev strings : List (List ℕ)
strings = (0x61 ∷ 0x62 ∷ 0x63 ∷ []) ∷ (0x68 ∷ 0x65 ∷ 0x6c ∷ 0x6c ∷ 0x6f ∷ []) ∷ []

abbrev copied : List Entry
copied =
    opened 1 1 ∷ opened 2 1 ∷ calls_in 1 1 1 (receives 0 (Some buffers)) ∷ calls_in 2 2 1 (sends (id_of 1 1) 0x100 [] strings)
    ∷ Written (Began 2 1) ∷ Given (Moved 2 8) ∷ Written (Ended 2 1) ∷ []

abbrev pub StringsRow : Type 0
StringsRow = (kept_of copied (2 ∷ []) ≡ copied) × (further_calls copied (2 ∷ []) ≡ 2 ∷ [])

-- a send waits that shows its VirtualSender: that thread has ended since, and its Opened and Broke
-- stay
abbrev virtual : CallParts
virtual = record {
  to = id_of 1 1;
  from = nilthread;
  send_period = 0;
  receive_period = 0;
  tag = 0x1001;
  originator = id_of 3 1;
  words = 7 ∷ [];
  strings = [];
  buffers = None;
}

abbrev shown : List Entry
shown = opened 1 1 ∷ opened 2 1 ∷ opened 3 1 ∷ opened 4 1 ∷ calls_in 1 2 1 virtual ∷ []

abbrev pub SenderRow : Type 0
SenderRow =
    kept_of (shown ++ Given (Broke (id_of 3 1)) ∷ Given (Broke (id_of 4 1)) ∷ []) []
    ≡ opened 1 1 ∷ opened 2 1 ∷ opened 3 1 ∷ calls_in 1 2 1 virtual ∷ Given (Broke (id_of 3 1)) ∷ []
