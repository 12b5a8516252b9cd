-- The room that is reserved ahead. Our choice (docs/PROFILE.md).
use Rattle.std.specs.Prelude.{ℕ, ◌+◌, ◌*◌, ◌<◌, Bool, nat_lt, length}
use Rattle.ipc_words.specs.Limits.{need_of_open, need_of_call, need_of_block, need_of_exchange}
use Rattle.ipc_history.specs.CallParts.{CallParts}
use Rattle.ipc_laws.specs.Counting.{blocks_of, pledged}
use Rattle.ipc_core.specs.KernelParts.{KernelParts}

-- the entries that an open, a call and an ExchangeRegisters may need with all that they bring
-- about; every other command needs none that is not pledged
abbrev pub open_need : ℕ
open_need = need_of_open

abbrev pub call_need : CallParts → ℕ
call_need call = need_of_call + need_of_block * blocks_of call

abbrev pub exreg_need : ℕ
exreg_need = need_of_exchange

-- the entries, what is pledged and this need are over the limit
unfoldable pub is_full : KernelParts → ℕ → Bool
is_full kernel need = nat_lt kernel.entries_limit (length kernel.history + pledged kernel.history + need)

-- the history has less room than for the entries, what is pledged and this need
abbrev pub LacksRoomFor : KernelParts → ℕ → Type 0
LacksRoomFor kernel need = kernel.room < length kernel.history + pledged kernel.history + need
