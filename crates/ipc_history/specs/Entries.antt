-- What one entry says.
use Rattle.std.specs.Prelude.{ℕ, ◌%◌, Bool, false, ◌||◌, ◌&&◌, Option, Some, None, ◌==◌, if◌then◌else◌}
use Rattle.ipc_words.specs.ThreadId.{number_of}
use Rattle.ipc_history.specs.CallParts.{CallParts}
use Rattle.ipc_history.specs.declared.entry.Entry.{Entry}
use Rattle.ipc_history.specs.declared.entry.Entry.TheVariants.{Given, Written}
use Rattle.ipc_history.specs.declared.entry.Input.{Input}
use Rattle.ipc_history.specs.declared.entry.Input.TheVariants.{At, Opened, Called, Broke, Moved}
use Rattle.ipc_history.specs.declared.entry.Output.TheVariants.{Began, Turned, Ended, Overflowed, Aborted, Failed}

-- the moment of an At
abbrev pub moment_in : Entry → Option ℕ
moment_in (Given (At moment)) = Some moment
moment_in _ = None

-- Opened(thread, ·), and the space there
abbrev pub opens : ℕ → Entry → Bool
opens thread (Given (Opened t space)) = t == thread
opens thread _ = false

abbrev pub space_in : ℕ → Entry → Option ℕ
space_in thread (Given (Opened t space)) = (if t == thread then Some space else None)
space_in thread _ = None

-- the thread that was opened
abbrev pub opened_in : Entry → Option ℕ
opened_in (Given (Opened thread space)) = Some thread
opened_in _ = None

-- the thread of this number that was opened, and its version
abbrev pub thread_in : ℕ → Entry → Option ℕ
thread_in number (Given (Opened t space)) = (if number_of t == number then Some t else None)
thread_in number _ = None

-- Broke(thread)
abbrev pub breaks : ℕ → Entry → Bool
breaks thread (Given (Broke t)) = t == thread
breaks thread _ = false

-- the number of a call that was entered, and the caller and the call of this number
abbrev pub number_in : Entry → Option ℕ
number_in (Given (Called n thread call)) = Some n
number_in _ = None

abbrev pub calls : ℕ → Entry → Bool
calls n (Given (Called k thread call)) = k == n
calls n _ = false

abbrev pub call_in : ℕ → Entry → Option (ℕ × CallParts)
call_in n (Given (Called k thread call)) = (if k == n then Some (thread, call) else None)
call_in n _ = None

-- the number of a call of the thread that was entered
abbrev pub number_by : ℕ → Entry → Option ℕ
number_by thread (Given (Called n caller call)) = (if caller == thread then Some n else None)
number_by thread _ = None

-- the bytes of a Moved(n, ·)
abbrev pub count_in : ℕ → Entry → ℕ
count_in n (Given (Moved k count)) = (if k == n then count else 0)
count_in n _ = 0

-- the receiving call of a Began(n, ·), the sending call of a Began(·, m)
abbrev pub receiver_in : ℕ → Entry → Option ℕ
receiver_in n (Written (Began k m)) = (if k == n then Some m else None)
receiver_in n _ = None

abbrev pub sender_in : ℕ → Entry → Option ℕ
sender_in m (Written (Began n k)) = (if k == m then Some n else None)
sender_in m _ = None

-- Ended(n, ·)
abbrev pub ends_send : ℕ → Entry → Bool
ends_send n (Written (Ended k m)) = k == n
ends_send n _ = false

-- Ended(n, m)
abbrev pub ends : ℕ → ℕ → Entry → Bool
ends n m (Written (Ended k j)) = (k == n) && (j == m)
ends n m _ = false

-- the thread of a Turned(m, ·)
abbrev pub turned_in : ℕ → Entry → Option ℕ
turned_in m (Written (Turned k thread)) = (if k == m then Some thread else None)
turned_in m _ = None

-- Failed(n, ·); Overflowed or Aborted with n in either place; Ended(·, n)
abbrev pub closes : ℕ → Entry → Bool
closes n (Written (Failed k code)) = k == n
closes n (Written (Overflowed k m offset)) = (k == n) || (m == n)
closes n (Written (Aborted k m count)) = (k == n) || (m == n)
closes n (Written (Ended k m)) = m == n
closes n _ = false

-- names the call n, in whatever place
abbrev pub names : ℕ → Entry → Bool
names n (Given (Called k thread call)) = k == n
names n (Given (Moved k count)) = k == n
names n (Written (Began k m)) = (k == n) || (m == n)
names n (Written (Turned m thread)) = m == n
names n (Written (Ended k m)) = (k == n) || (m == n)
names n (Written (Overflowed k m offset)) = (k == n) || (m == n)
names n (Written (Aborted k m count)) = (k == n) || (m == n)
names n (Written (Failed k code)) = k == n
names n _ = false

-- Ended(·, m)
abbrev pub ends_receive : ℕ → Entry → Bool
ends_receive m (Written (Ended n k)) = k == m
ends_receive m _ = false

-- Began(n, ·), and Began(·, m)
abbrev pub begins_send : ℕ → Entry → Bool
begins_send n (Written (Began k m)) = k == n
begins_send n _ = false

abbrev pub begins_receive : ℕ → Entry → Bool
begins_receive m (Written (Began n k)) = k == m
begins_receive m _ = false

-- the send of n ends otherwise: Failed(n, code with p=0), Overflowed(n, ·), Aborted(n, ·)
abbrev pub fails_send : ℕ → Entry → Bool
fails_send n (Written (Failed k code)) = (k == n) && (code % 2 == 0)
fails_send n (Written (Overflowed k m offset)) = k == n
fails_send n (Written (Aborted k m count)) = k == n
fails_send n _ = false

-- an input, as it was given
abbrev pub input_in : Entry → Option Input
input_in (Given input) = Some input
input_in (Written output) = None
