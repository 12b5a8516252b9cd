-- How many outputs are still to come, and how much room is owed.
use Rattle.std.specs.Prelude.{◌≡◌, ℕ, ◌+◌, ◌-◌, ◌*◌, ◌<◌, ◌≤◌, List, [], ◌∷◌, ◌++◌, Bool, true}
use Rattle.std.specs.Prelude.{false, not, ◌||◌, Some, is_none, if◌then◌else◌, ◌==◌, sum_by}
use Rattle.std.specs.Prelude.{count_by, filter_map, length, map}
use Rattle.std.specs.Option.{option_map_or}
use Rattle.ipc_words.specs.Limits.{max_thread_number, max_outputs, pledge_of_thread, pledge_of_open_call, pledge_of_block}
use Rattle.ipc_words.specs.ThreadId.{nilthread}
use Rattle.ipc_items.specs.Strings.{size_of}
use Rattle.ipc_history.specs.CallParts.{CallParts}
use Rattle.ipc_history.specs.Blocks.{blocks}
use Rattle.ipc_history.specs.Words.{last}
use Rattle.ipc_history.specs.Entries.{opened_in}
use Rattle.ipc_history.specs.Calls.{numbers, to_of, from_of, message_size}
use Rattle.ipc_history.specs.Threads.{is_live}
use Rattle.ipc_history.specs.Phases.{is_sent, receiver_of, sender_of, is_over, moved_bytes}
use Rattle.ipc_history.specs.NextOutput.{next_output}
use Rattle.ipc_history.specs.Legal.{Legal}
use Rattle.ipc_history.specs.declared.entry.Entry.{Entry}
use Rattle.ipc_history.specs.declared.entry.Entry.TheVariants.{Given, Written}
use Rattle.ipc_history.specs.declared.entry.Input.{Input}
use Rattle.ipc_history.specs.declared.entry.Input.TheVariants.{At, Opened, Called, Exreg, Broke, Moved}
use Rattle.ipc_history.specs.declared.entry.Output.{Output}
use Rattle.ipc_history.specs.declared.entry.Output.TheVariants.{Began}

-- a phase takes two outputs, a Began and what ends it; one once it has begun, none once it is done
abbrev pub phase_steps : Bool → Bool → ℕ
phase_steps done waiting = (if done then 0 else (if waiting then 2 else 1))

unfoldable pub send_steps : List Entry → ℕ → ℕ
send_steps P n = phase_steps (is_over P n || (to_of P n == nilthread) || is_sent P n) (is_none (receiver_of P n))

unfoldable pub receive_steps : List Entry → ℕ → ℕ
receive_steps P n = phase_steps (is_over P n || (from_of P n == nilthread)) (is_none (sender_of P n))

-- the outputs that may still name n, from 4 to 0
unfoldable pub steps_left : List Entry → ℕ → ℕ
steps_left P n = send_steps P n + receive_steps P n

-- a Began may be followed by one Turned, which ends no phase; but it took a step of each of two
-- calls
abbrev pub is_began : Entry → Bool
is_began (Written (Began n m)) = true
is_began _ = false

unfoldable pub turn_left : List Entry → ℕ
turn_left P = (if option_map_or is_began (last P) false then 1 else 0)

unfoldable pub all_steps_left : List Entry → ℕ
all_steps_left P = sum_by (steps_left P) (numbers P) + turn_left P

-- Room. The blocks of the bytes of n that are still to be copied; none without a send phase
unfoldable pub blocks_left : List Entry → ℕ → ℕ
blocks_left P n = (if to_of P n == nilthread then 0 else blocks (message_size P n - moved_bytes P n))

-- and of a whole call
abbrev pub blocks_of : CallParts → ℕ
blocks_of call = (if call.to == nilthread then 0 else blocks (size_of call.strings))

-- what an open call may still need: its outputs, an At before it is due, an At and a Moved for each
-- block
unfoldable pub room_of : List Entry → ℕ → ℕ
room_of P n = (if is_over P n then 0 else 1 + 2 * blocks_left P n) + steps_left P n

-- the threads in the order in which they were opened, and how many live: each may need an At and
-- its Broke
unfoldable pub threads : List Entry → List ℕ
threads P = filter_map opened_in P

unfoldable pub live_threads : List Entry → ℕ
live_threads P = count_by (is_live P) (threads P)

unfoldable pub room_owed : List Entry → ℕ
room_owed P = 2 * live_threads P + sum_by (room_of P) (numbers P) + turn_left P

-- the calls that aren't over
unfoldable pub open_calls : List Entry → ℕ
open_calls P = count_by (λ n. not (is_over P n)) (numbers P)

-- each output takes at least one of the steps that were left
abbrev pub StepsFall : Type 0
StepsFall =
    (P : List Entry) → Legal P → (output : Output) → next_output P ≡ Some output
    → all_steps_left (P ++ Written output ∷ []) < all_steps_left P

-- so many outputs follow, and no more
abbrev pub StepsBound : Type 0
StepsBound = (P : List Entry) (outputs : List Output) → Legal (P ++ map Written outputs) → length outputs ≤ all_steps_left P

-- a call is open for a live thread of its own, so after an input at most four outputs for each of
-- these follow
abbrev pub OpenBound : Type 0
OpenBound = (P : List Entry) → Legal P → open_calls P ≤ live_threads P

abbrev pub OutputsBound : Type 0
OutputsBound =
    (P : List Entry) (input : Input) (outputs : List Output)
    → Legal (P ++ Given input ∷ map Written outputs)
    → length outputs ≤ 4 * live_threads (P ++ Given input ∷ [])

-- each number has at most one live thread, so after an input come at most four outputs for each
-- number
abbrev pub LiveBound : Type 0
LiveBound = (P : List Entry) → Legal P → live_threads P ≤ max_thread_number

abbrev pub OutputsMost : Type 0
OutputsMost =
    (P : List Entry) (input : Input) (outputs : List Output)
    → Legal (P ++ Given input ∷ map Written outputs) → length outputs ≤ max_outputs

-- the room that an input needs with its own entry, and the room that it gives back. An At that
-- stands before it needs one more
abbrev pub room_for : Input → ℕ
room_for (At moment) = 1
room_for (Opened thread space) = 3
room_for (Called n thread call) = 6 + 2 * blocks_of call
room_for (Exreg thread target control) = 1
room_for _ = 0

abbrev pub room_back : Input → ℕ
room_back (Broke thread) = 1
room_back (Moved n count) = 1
room_back _ = 0

abbrev pub InputRoom : Type 0
InputRoom =
    (P : List Entry) (input : Input) → Legal (P ++ Given input ∷ [])
    → length (P ++ Given input ∷ []) + room_owed (P ++ Given input ∷ []) + room_back input
    ≤ length P + room_owed P + room_for input

-- an At that brings an output needs no room that wasn't owed, since a call fails
abbrev pub AtRoom : Type 0
AtRoom =
    (P : List Entry) (moment : ℕ) (output : Output)
    → Legal (P ++ Given (At moment) ∷ Written output ∷ [])
    → length (P ++ Given (At moment) ∷ Written output ∷ [])
    + room_owed (P ++ Given (At moment) ∷ Written output ∷ []) ≤ length P + room_owed P

-- what is pledged covers what is owed: something for each live thread, each open call, and each
-- block of each open call
unfoldable pub pledge_of : List Entry → ℕ → ℕ
pledge_of P n =
    (if is_over P n
    then 0
    else pledge_of_open_call
    + pledge_of_block * (if to_of P n == nilthread then 0 else blocks (message_size P n)))

unfoldable pub pledged : List Entry → ℕ
pledged P = pledge_of_thread * live_threads P + sum_by (pledge_of P) (numbers P)

abbrev pub PledgeCovers : Type 0
PledgeCovers = (P : List Entry) → Legal P → room_owed P ≤ pledged P

-- an output needs no room that wasn't owed
abbrev pub RoomHolds : Type 0
RoomHolds =
    (P : List Entry) → Legal P → (output : Output) → next_output P ≡ Some output
    → length (P ++ Written output ∷ []) + room_owed (P ++ Written output ∷ [])
    ≤ length P + room_owed P

-- the room that entries need: of each input what it needs
abbrev pub room_need : Entry → ℕ
room_need (Given input) = room_for input
room_need (Written output) = 0

-- what a command appends, an At, its input and outputs, fits where the pledge and what its inputs
-- need fitted
abbrev pub CommandFits : Type 0
CommandFits =
    (P Q : List Entry) (limit : ℕ) → Legal (P ++ Q)
    → length P + pledged P + sum_by room_need Q ≤ limit → length (P ++ Q) ≤ limit
