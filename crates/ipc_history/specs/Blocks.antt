-- Blocks: the bytes of a message are copied block by block. Our choice (docs/PROFILE.md).
use Rattle.std.specs.Prelude.{ℕ, ◌+◌, ◌-◌, ◌/◌, List, min}
use Rattle.ipc_words.specs.Limits.{block_bytes}
use Rattle.ipc_history.specs.Calls.{message_size}
use Rattle.ipc_history.specs.Phases.{moved_bytes}
use Rattle.ipc_history.specs.declared.entry.Entry.{Entry}

-- how many blocks so many bytes are; the last one may be short
abbrev pub blocks : ℕ → ℕ
blocks bytes = (bytes + (block_bytes - 1)) / block_bytes

-- the bytes of the next copy of n: a block, or the rest
abbrev pub block_of : List Entry → ℕ → ℕ
block_of P n = min block_bytes (message_size P n - moved_bytes P n)
