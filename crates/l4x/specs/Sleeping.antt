-- What goes over the connection of a sleeper.
use Rattle.std.specs.Prelude.{◌≡◌, ℕ, List, ◌++◌, IfErr, Option, Some, None, if◌then◌else◌}
use Rattle.ipc_frame.specs.declared.frame.Frame.{Frame}
use Rattle.ipc_frame.specs.declared.frame.Frame.TheVariants as frame
use Rattle.ipc_frame.specs.declared.version.WireVersion.TheVariants.{One}
use Rattle.ipc_frame.specs.Frames.{spelling}
use Rattle.ipc_words.specs.MsgTag.{has_failed}
use Rattle.ipc_words.specs.Timeouts.{timeouts_of}
use Rattle.ipc_client.specs.Asking.{Answers, SaysBye, answer_frame}
use Rattle.ipc_client.specs.ClientParts.{ClientParts}
use Rattle.ipc_client.specs.Messages.{ipc_of, no_buffers, no_message}
use Rattle.ipc_client.specs.Receiving.{message_in}
use Rattle.ipc_client.specs.Timeouts.{IsLeastPeriod}
use Rattle.ipc_client.specs.declared.answer.Answer.{Answer}
use Rattle.ipc_client.specs.declared.answer.Answer.TheVariants as answer
use Rattle.ipc_client.specs.declared.answer.Failure.TheVariants.{Failed}

-- L4 X.2 manual, Ipc, ErrorCode: the timeout of the receive phase
abbrev pub timed_out : ℕ
timed_out = 0x3

-- the thread number of a sleeper
abbrev pub sleeper_number : ℕ
sleeper_number = 4

-- a message of the thread itself is asked for, for so long
abbrev pub sleep_frame : ℕ → ℕ → Frame
sleep_frame own period = frame.Ipc (ipc_of 0 own (timeouts_of period 0) no_message no_buffers)

-- the ErrorCode of a call that failed
abbrev pub failed_code : Answer → Option ℕ
failed_code (answer.Outcome ipcr) = (if has_failed ipcr.tag then Some ipcr.error else None)
failed_code (answer.Refused number) = None

-- the call failed, if at all, by its timeout
abbrev pub IsOver : Answer → Type 0
IsOver answer = IfErr (message_in answer) (λ why. why ≡ Failed timed_out)

-- a thread slept: it asked for so long, and was answered when that was over
pub record Sleeps (old new : ClientParts) (own micros : ℕ) : Type 0 where
  pub period : ℕ
  pub least : IsLeastPeriod micros period
  pub answer : Answer
  pub asks : Answers old new (sleep_frame own period) (answer_frame answer)
  pub over : IsOver answer

-- HELLO, the sleep of the thread that was welcomed, and BYE
pub record SleepsThrough (old new : ClientParts) (micros : ℕ) : Type 0 where
  pub own : ℕ
  pub greeted : ClientParts
  pub hello : Answers old greeted (frame.Hello sleeper_number One) (frame.Welcome own)
  pub slept : ClientParts
  pub sleeps : Sleeps greeted slept own micros
  pub bye : SaysBye slept new

-- these bytes went out for it, and these came: three frames, and their two answers
pub record SleepsOver (sent came : List ℕ) (micros : ℕ) : Type 0 where
  pub own : ℕ
  pub period : ℕ
  pub least : IsLeastPeriod micros period
  pub answer : Answer
  pub over : IsOver answer
  pub out : sent ≡ spelling (frame.Hello sleeper_number One) ++ (spelling (sleep_frame own period) ++ spelling frame.Bye)
  pub back : came ≡ spelling (frame.Welcome own) ++ spelling (answer_frame answer)
