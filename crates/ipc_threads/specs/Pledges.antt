-- What is counted of an open call, by what is kept of it: itself, and what is pledged for it.
use Rattle.std.specs.Prelude.{ℕ, ◌+◌, ◌*◌, ◌==◌, if◌then◌else◌}
use Rattle.std.specs.Option.{option_map_or}
use Rattle.ipc_words.specs.Limits.{pledge_of_open_call, pledge_of_block}
use Rattle.ipc_words.specs.ThreadId.{nilthread}
use Rattle.ipc_history.specs.Blocks.{blocks}
use Rattle.ipc_threads.specs.Steps.{standing_in}
use Rattle.ipc_threads.specs.Slot.{Slot}
use Rattle.ipc_threads.specs.declared.slot.Standing.{Standing}

-- what an open call needs, and what each block of the bytes of its strings needs
abbrev pub pledge_by : Standing → ℕ
pledge_by s =
    pledge_of_open_call + pledge_of_block * (if s.to == nilthread then 0 else blocks s.size)

abbrev pub pledge_in : Slot → ℕ
pledge_in slot = option_map_or pledge_by (standing_in slot) 0

-- how many open calls a slot holds
abbrev pub open_in : Slot → ℕ
open_in slot = option_map_or (λ s. 1) (standing_in slot) 0
