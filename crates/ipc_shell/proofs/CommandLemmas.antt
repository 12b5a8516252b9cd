-- The fields of commands: which command has fields of a name, and how a line is taken apart into
-- them.
use Rattle.std.proofs.Common.{◌≡◌, ℕ, ◌+◌, ◌<◌, ◌≤◌, List, [], ◌∷◌, length, get_or, codes, refl, ap, sym, ◌≢◌, arith}
use Rattle.ipc_core.specs.declared.command.Command.{Command}
use Rattle.ipc_core.specs.declared.command.Command.TheVariants.{Open, Enter, Exreg, Broke, At, Advance, Take}
use Rattle.ipc_history.specs.CallParts.{CallParts}
use Rattle.ipc_lines.specs.Lines.{call_fields}
use Rattle.ipc_lines.specs.Reading.{IsCall, parts_at}
use Rattle.ipc_lines.proofs.Lengths.{decimal_length, hex_length, id_length}
use Rattle.ipc_lines.proofs.ListTexts.{AllLack, lack_nil, lack_cons}
use Rattle.ipc_lines.proofs.Longest.{room, call_room, spaced_within}
use Rattle.ipc_lines.proofs.Naming.{first_same, rest_same}
use Rattle.ipc_lines.proofs.Spacing.{decimal_lacks, hex_lacks, id_lacks, call_lacks, letters_lack, lack_one, lack_two, lack_three, spaced_parts}
use Rattle.ipc_words.specs.Limits.{max_line_bytes}
use Rattle.ipc_shell.specs.Commands.{command_name, command_fields, command_text, compact_text}
use Rattle.ipc_shell.specs.Commands.{IsCommand, CommandsAreWithinTheLimit, NoCommandCompacts}
use Rattle.ipc_shell.specs.declared.reading.CommandName.{CommandName}
use Rattle.ipc_shell.specs.declared.reading.CommandName.TheVariants as name

-- ---- names
first_byte : (xs ys : List ℕ) (fs gs : List (List ℕ)) → xs ∷ fs ≡ ys ∷ gs → get_or xs 0 0 ≡ get_or ys 0 0
first_byte xs ys fs gs e = ap (λ l. get_or l 0 0) (first_same xs ys fs gs e)

-- a command whose fields begin with `call`
pub record IsCallCommand (command : Command) (fs : List (List ℕ)) : Type 0 where
  pub thread : ℕ
  pub call : CallParts
  pub is_call : IsCall thread call
  pub same : Enter thread call ≡ command
  pub fields : fs ≡ call_fields thread call

pub call_command : (command : Command) (fs : List (List ℕ)) → IsCommand command → codes "call" ∷ fs ≡ command_fields command
    → IsCallCommand command fs
call_command (Open number space) fs h e = absurd (omega (arith, first_byte _ _ _ _ e))
call_command (Enter thread call) fs h e = record {
  thread = thread;
  call = call;
  is_call = h;
  same = refl;
  fields = rest_same _ _ _ _ e;
}
call_command (Exreg thread target control) fs h e = absurd (omega (arith, first_byte _ _ _ _ e))
call_command (Broke thread) fs h e = absurd (omega (arith, first_byte _ _ _ _ e))
call_command (At moment) fs h e = absurd (omega (arith, first_byte _ _ _ _ e))
call_command Advance fs h e = absurd (omega (arith, first_byte _ _ _ _ e))
call_command (Take thread) fs h e = absurd (omega (arith, first_byte _ _ _ _ e))

-- the name that the fields of a command begin with
pub command_named : (command : Command) (text : List ℕ) (fs : List (List ℕ)) → text ∷ fs ≡ command_fields command
    → (name : CommandName) × (text ≡ command_name name)
command_named (Open number space) text fs e = (name.Open, first_same _ _ _ _ e)
command_named (Enter thread call) text fs e = (name.Call, first_same _ _ _ _ e)
command_named (Exreg thread target control) text fs e = (name.Exreg, first_same _ _ _ _ e)
command_named (Broke thread) text fs e = (name.Broke, first_same _ _ _ _ e)
command_named (At moment) text fs e = (name.At, first_same _ _ _ _ e)
command_named Advance text fs e = (name.Advance, first_same _ _ _ _ e)
command_named (Take thread) text fs e = (name.Take, first_same _ _ _ _ e)

-- ---- fields
command_lacks : (command : Command) → IsCommand command → AllLack 32 (command_fields command)
command_lacks (Open number space) h =
    lack_two 32 (omega arith) (codes "open") _ _ (letters_lack 32 (omega arith) (codes "open") refl)
    (decimal_lacks 32 (omega arith) number) (decimal_lacks 32 (omega arith) space)
command_lacks (Enter thread call) h =
    lack_cons (codes "call") _ (letters_lack 32 (omega arith) (codes "call") refl) (call_lacks 32 (omega arith) thread call h)
command_lacks (Exreg thread target control) h =
    lack_three 32 (omega arith) (codes "exreg") _ _ _ (letters_lack 32 (omega arith) (codes "exreg") refl)
    (id_lacks 32 (omega arith) thread) (id_lacks 32 (omega arith) target) (hex_lacks 32 (omega arith) control)
command_lacks (Broke thread) h =
    lack_one 32 (omega arith) (codes "broke") _ (letters_lack 32 (omega arith) (codes "broke") refl) (id_lacks 32 (omega arith) thread)
command_lacks (At moment) h =
    lack_one 32 (omega arith) (codes "at") _ (letters_lack 32 (omega arith) (codes "at") refl) (decimal_lacks 32 (omega arith) moment)
command_lacks Advance h = lack_cons (codes "advance") [] (letters_lack 32 (omega arith) (codes "advance") refl) lack_nil
command_lacks (Take thread) h =
    lack_one 32 (omega arith) (codes "take") _ (letters_lack 32 (omega arith) (codes "take") refl) (id_lacks 32 (omega arith) thread)

pub command_count : (command : Command) → (0 < length (command_fields command)) × (length (command_fields command) ≤ 10)
command_count (Open number space) = (omega arith, omega arith)
command_count (Enter thread call) = (omega arith, omega arith)
command_count (Exreg thread target control) = (omega arith, omega arith)
command_count (Broke thread) = (omega arith, omega arith)
command_count (At moment) = (omega arith, omega arith)
command_count Advance = (omega arith, omega arith)
command_count (Take thread) = (omega arith, omega arith)

pub command_parts : (line : List ℕ) (command : Command) → IsCommand command → line ≡ command_text command
    → parts_at 32 line ≡ command_fields command
command_parts line command h e = spaced_parts line (command_fields command) (command_count command).0 (command_lacks command h) e

-- ---- no line is longer than the limit
command_room : (command : Command) → IsCommand command → room (command_fields command) ≤ max_line_bytes + 1
command_room (Open number space) h = omega (arith, decimal_length number h.0, decimal_length space h.1)
command_room (Enter thread call) h = omega (arith, call_room thread call h)
command_room (Exreg thread target control) h = omega (arith, id_length thread h.0, id_length target h.1, hex_length control h.2)
command_room (Broke thread) h = omega (arith, id_length thread h)
command_room (At moment) h = omega (arith, decimal_length moment h)
command_room Advance h = omega arith
command_room (Take thread) h = omega (arith, id_length thread h)

pub commands_are_within_the_limit : CommandsAreWithinTheLimit
commands_are_within_the_limit = λ command h. spaced_within (command_fields command) (command_room command h)

-- ---- no command is the word that asks for a compaction
second_byte : (xs ys : List ℕ) (fs gs : List (List ℕ)) → xs ∷ fs ≡ ys ∷ gs → get_or xs 1 0 ≡ get_or ys 1 0
second_byte xs ys fs gs e = ap (λ l. get_or l 1 0) (first_same xs ys fs gs e)

apart : (command : Command) → codes "compact" ∷ [] ≢ command_fields command
apart (Open number space) e = absurd (omega (arith, first_byte _ _ _ _ e))
apart (Enter thread call) e = absurd (omega (arith, second_byte _ _ _ _ e))
apart (Exreg thread target control) e = absurd (omega (arith, first_byte _ _ _ _ e))
apart (Broke thread) e = absurd (omega (arith, first_byte _ _ _ _ e))
apart (At moment) e = absurd (omega (arith, first_byte _ _ _ _ e))
apart Advance e = absurd (omega (arith, first_byte _ _ _ _ e))
apart (Take thread) e = absurd (omega (arith, first_byte _ _ _ _ e))

pub no_command_compacts : NoCommandCompacts
no_command_compacts command h e = apart command (command_parts compact_text command h (sym e))
