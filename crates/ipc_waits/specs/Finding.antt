-- The calls of which the next output can be, so that a kernel looks at no other.
use Rattle.std.specs.Prelude.{ℕ, ◌<◌, List, [], ◌∷◌, Bool, false, ◌&&◌, ◌||◌, Option, Some, IsTrue}
use Rattle.std.specs.Prelude.{find, filter, nat_lt, ◌==◌, if◌then◌else◌}
use Rattle.std.specs.List.{list_any}
use Rattle.std.specs.Option.{option_map_or}
use Rattle.ipc_words.specs.ThreadId.{number_of}
use Rattle.ipc_history.specs.Entries.{names}
use Rattle.ipc_history.specs.Calls.{numbers, caller_of, to_of}
use Rattle.ipc_history.specs.Phases.{receiver_of, sender_of, is_sending, is_transferring, is_receiving}
use Rattle.ipc_history.specs.Matching.{from_specifier, matches}
use Rattle.ipc_history.specs.Timing.{is_due_at}
use Rattle.ipc_history.specs.declared.entry.Entry.{Entry}
use Rattle.ipc_history.specs.declared.entry.Entry.TheVariants.{Given, Written}
use Rattle.ipc_history.specs.declared.entry.Input.TheVariants.{At, Called, Broke, Moved}
use Rattle.ipc_history.specs.declared.entry.Output.{Output}
use Rattle.ipc_history.specs.declared.entry.Output.TheVariants.{Began, Turned, Ended}
use Rattle.ipc_laws.specs.Locality.{Possible}

abbrev pub is_among : List ℕ → ℕ → Bool
is_among candidates n = list_any (λ k. k == n) candidates

-- in rising order, none twice
abbrev pub IsRising : List ℕ → Type 0
IsRising [] = Unit {0}
IsRising (x ∷ xs) = ((y : ℕ) → IsTrue (is_among xs y) → x < y) × IsRising xs

-- a number put in its place in a rising list
abbrev pub insert : ℕ → List ℕ → List ℕ
insert n [] = n ∷ []
insert n (x ∷ xs) = (if n == x then x ∷ xs else (if nat_lt n x then n ∷ x ∷ xs else x ∷ insert n xs))

-- the calls whose callers have these numbers
abbrev pub calls_at : List Entry → List ℕ → List ℕ
calls_at P places = filter (λ n. is_among places (number_of (caller_of P n))) (numbers P)

-- the calls under which an output is found: the end of a transfer under its sending call, a meeting
-- under either call, a failure under the call that fails
abbrev pub finds : ℕ → Output → Bool
finds n (Ended k m) = k == n
finds n output = names n (Written output)

-- every output that the calls make possible is found under a candidate
abbrev pub Covers : List Entry → List ℕ → Type 0
Covers P candidates = (output : Output) → Possible P output → (n : ℕ) × IsTrue (is_among candidates n) × IsTrue (finds n output)

-- so it is of the calls at these places, which are thread numbers
abbrev pub CoversAt : List Entry → List ℕ → Type 0
CoversAt P places = Covers P (calls_at P places)

-- the sending call of the meeting under c: c itself, and where c receives the least call that meets
-- it
unfoldable pub source_of : List Entry → ℕ → Option ℕ
source_of P c = (if is_receiving P c then find (λ k. matches P k c) (numbers P) else Some c)

-- the calls that lose their partner where the thread ends: n sends to it, waits for it, or is in
-- transfer with a call of it
abbrev pub sends_to : List Entry → ℕ → ℕ → Bool
sends_to P n thread = is_sending P n && (to_of P n == thread)

-- those that wait to send to it, in call order
abbrev pub senders : List Entry → ℕ → List ℕ
senders P thread = filter (λ n. sends_to P n thread) (numbers P)

abbrev pub waits_for : List Entry → ℕ → ℕ → Bool
waits_for P n thread = is_receiving P n && (from_specifier P n == thread)

abbrev pub passes_to : List Entry → ℕ → ℕ → Bool
passes_to P n thread = option_map_or (λ m. is_transferring P n m && (caller_of P m == thread)) (receiver_of P n) false

abbrev pub takes_from : List Entry → ℕ → ℕ → Bool
takes_from P n thread = option_map_or (λ k. is_transferring P k n && (caller_of P k == thread)) (sender_of P n) false

unfoldable pub watches : List Entry → ℕ → ℕ → Bool
watches P thread n = sends_to P n thread || waits_for P n thread || passes_to P n thread || takes_from P n thread

-- the candidates that an entry adds
abbrev pub touched : List Entry → Entry → List ℕ
touched P (Given (Called n thread call)) = n ∷ []
touched P (Given (Moved n count)) = n ∷ []
touched P (Given (Broke thread)) = filter (watches P thread) (numbers P)
touched P (Given (At moment)) = filter (is_due_at P moment) (numbers P)
touched P (Written (Began n m)) = insert n (m ∷ [])
touched P (Written (Turned r thread)) = r ∷ []
touched P (Written (Ended n m)) = n ∷ []
touched P _ = []
