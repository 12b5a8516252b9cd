-- The commands of entries that are read back are read back.
use Rattle.std.proofs.Common.{◌≡◌, ℕ, ◌<◌, ◌≤◌, ◌+◌, ◌^◌, ◌/◌, IsTrue, Bool, true, false, List, [], ◌∷◌, ◌++◌, arith}
use Rattle.std.specs.List.{All}
use Rattle.std.proofs.lemmas.Bool.Decides.{nat_tests}
use Rattle.std.proofs.lemmas.List.Elements.{All-cons, All-head, All-tail, All-append}
use Rattle.ipc_words.specs.ThreadId.{number_of}
use Rattle.ipc_words.specs.Control.{is_masked}
use Rattle.ipc_history.specs.declared.entry.Entry.{Entry}
use Rattle.ipc_history.specs.declared.entry.Entry.TheVariants.{Given, Written}
use Rattle.ipc_history.specs.declared.entry.Input.{Input}
use Rattle.ipc_history.specs.declared.entry.Input.TheVariants as input
use Rattle.ipc_core.specs.declared.command.Command.{Command}
use Rattle.ipc_core.specs.declared.command.Command.TheVariants.{Take}
use Rattle.ipc_lines.specs.Reading.{IsReadable, IsWord}
use Rattle.ipc_shell.specs.Commands.{IsCommand}
use Rattle.ipc_shell.specs.Script.{is_untaken, is_left, take_if, takes_for, commands_at, commands_from, last_take}
use Rattle.ipc_shell.specs.Commands.{command_for}
use Rattle.ipc_shell.specs.Script.{last_takes, commands_of}

none : All IsCommand []
none = λ k d lt. absurd (omega arith)

one : (command : Command) → IsCommand command → All IsCommand (command ∷ [])
one command h = All-cons IsCommand command [] h none

one_if : (b : Bool) (thread : ℕ) → IsWord thread → All IsCommand (take_if b thread)
one_if true thread h = one (Take thread) h
one_if false thread h = none

half : (id : ℕ) → IsWord id → IsWord (number_of id)
half id h = omega arith

masked_small : (control : ℕ) → IsTrue (is_masked control) → IsWord control
masked_small control h = grind (arith, nat_tests)

readable_takes : (P : List Entry) (given : Input) → IsReadable (Given given) → All IsCommand (takes_for P given)
readable_takes P (input.Called n caller call) h = one_if (is_untaken P caller) caller h.1.thread_word
readable_takes P (input.Exreg thread target control) h = one_if (is_untaken P thread) thread h.0
readable_takes P _ h = none

readable_command : (given : Input) → IsReadable (Given given) → IsCommand (command_for given)
readable_command (input.At moment) h = h
readable_command (input.Opened thread space) h = (half thread h.0, h.1)
readable_command (input.Called n caller call) h = h.1
readable_command (input.Exreg thread target control) h = (h.0, h.1, masked_small control h.2)
readable_command (input.Broke thread) h = h
readable_command (input.Moved n count) h = tt

readable_at : (P : List Entry) (e : Entry) → IsReadable e → All IsCommand (commands_at P e)
readable_at P (Given given) h =
    All-append IsCommand (takes_for P given) _ (readable_takes P given h) (one (command_for given) (readable_command given h))
readable_at P (Written output) h = none

readable_from : (P rest : List Entry) → All IsReadable rest → All IsCommand (commands_from P rest)
unfolding commands_from
readable_from P [] h = none
readable_from P (e ∷ rest) h =
    All-append IsCommand (commands_at P e) _ (readable_at P e (All-head IsReadable e rest h))
    (readable_from (P ++ e ∷ []) rest (All-tail IsReadable e rest h))

readable_last : (H : List Entry) (e : Entry) (rest : List Entry) → IsReadable e → All IsCommand (last_take H e rest)
readable_last H (Given (input.Called n caller call)) rest h = one_if (is_left H n caller call rest) caller h.1.thread_word
readable_last H _ rest h = none

readable_lasts : (H rest : List Entry) → All IsReadable rest → All IsCommand (last_takes H rest)
unfolding last_takes
readable_lasts H [] h = none
readable_lasts H (e ∷ rest) h =
    All-append IsCommand (last_take H e rest) _ (readable_last H e rest (All-head IsReadable e rest h))
    (readable_lasts H rest (All-tail IsReadable e rest h))

pub readable_commands : (H : List Entry) → All IsReadable H → All IsCommand (commands_of H)
unfolding commands_of
readable_commands H h = All-append IsCommand (commands_from [] H) _ (readable_from [] H h) (readable_lasts H H h)
