-- In which phases a thread is, as ExchangeRegisters tells it (L4 X.2 manual, ExchangeRegisters: S
-- and R).
use Rattle.std.specs.Prelude.{ℕ, ◌+◌, List, Bool, false, ◌||◌, if◌then◌else◌}
use Rattle.std.specs.Option.{option_map_or}
use Rattle.ipc_history.specs.Phases.{receiver_of, sender_of, open_call, is_sending, is_transferring, is_receiving}
use Rattle.ipc_history.specs.declared.entry.Entry.{Entry}

-- the thread waits to send, or is the sender of a transfer
unfoldable pub in_send_phase : List Entry → ℕ → Bool
in_send_phase P thread =
    option_map_or (λ c. is_sending P c || option_map_or (is_transferring P c) (receiver_of P c) false)
    (open_call P thread) false

-- the thread waits to receive, or is the receiver of a transfer
unfoldable pub in_receive_phase : List Entry → ℕ → Bool
in_receive_phase P thread =
    option_map_or
    (λ c. is_receiving P c || option_map_or (λ n. is_transferring P n c) (sender_of P c) false)
    (open_call P thread) false

-- R (2) where the thread is in a receive phase, S (4) where it is in a send phase
unfoldable pub phases_of : List Entry → ℕ → ℕ
phases_of P thread = (if in_receive_phase P thread then 2 else 0) + (if in_send_phase P thread then 4 else 0)
