-- Which command is refused, and why; of several causes the first counts.
use Rattle.std.specs.Prelude.{ℕ, ◌+◌, ◌||◌, not, Option, Some, None, is_none, nat_lt, if◌then◌else◌}
use Rattle.ipc_history.specs.CallParts.{CallParts}
use Rattle.ipc_history.specs.Calls.{calls_made}
use Rattle.ipc_history.specs.Threads.{is_live, is_taken, next_version}
use Rattle.ipc_core.specs.KernelParts.{KernelParts}
use Rattle.ipc_core.specs.Outcomes.{is_busy}
use Rattle.ipc_core.specs.Ranges.{is_out_of_range}
use Rattle.ipc_core.specs.Room.{is_full, open_need, call_need, exreg_need}
use Rattle.ipc_core.specs.declared.refusal.Refusal.{Refusal}
use Rattle.ipc_core.specs.declared.refusal.Refusal.TheVariants.{BadNumber, NumberTaken, NumberWorn, HistoryFull}
use Rattle.ipc_core.specs.declared.refusal.Refusal.TheVariants.{NoThread, Busy, CallsSpent}

-- an open: number or space out of range, number taken, number worn out, history full
unfoldable pub open_refusal : KernelParts → ℕ → ℕ → Option Refusal
open_refusal kernel number space =
    (if is_out_of_range number space then Some BadNumber
    else (if is_taken kernel.history number then Some NumberTaken
    else (if is_none (next_version kernel.history number) then Some NumberWorn
    else (if is_full kernel open_need then Some HistoryFull else None))))

-- a call: no such thread, busy, calls spent, history full
unfoldable pub enter_refusal : KernelParts → ℕ → CallParts → Option Refusal
enter_refusal kernel thread call =
    (if not (is_live kernel.history thread) then Some NoThread
    else (if is_busy kernel thread then Some Busy
    else (if nat_lt kernel.calls_limit (calls_made kernel.history + 1) then Some CallsSpent
    else (if is_full kernel (call_need call) then Some HistoryFull else None))))

-- an ExchangeRegisters: no such thread, busy, history full
unfoldable pub exreg_refusal : KernelParts → ℕ → Option Refusal
exreg_refusal kernel thread =
    (if not (is_live kernel.history thread) then Some NoThread
    else (if is_busy kernel thread then Some Busy
    else (if is_full kernel exreg_need then Some HistoryFull else None)))
