-- L4 X.2 manual, ExchangeRegisters: of the control word the bits R (1) and S (2), which stop a
-- receive phase and a send phase.
use Rattle.std.specs.Prelude.{ℕ, ◌+◌, ◌*◌, ◌/◌, ◌%◌, ◌||◌, Bool, ◌==◌}
use Rattle.ipc_words.specs.Bits.{bit_of}

-- the bit R
abbrev pub stops_receive : ℕ → Bool
stops_receive control = control / 2 % 2 == 1

-- the bit S
abbrev pub stops_send : ℕ → Bool
stops_send control = control / 4 % 2 == 1

-- a control word with no bit but R and S
abbrev pub is_masked : ℕ → Bool
is_masked control = (control == 0) || (control == 2) || (control == 4) || (control == 6)

-- the control word with these two bits and no other
abbrev pub control_of : Bool → Bool → ℕ
control_of receive send = 2 * bit_of receive + 4 * bit_of send

-- a control word's bits R and S alone
abbrev pub masked_of : ℕ → ℕ
masked_of control = control_of (stops_receive control) (stops_send control)
