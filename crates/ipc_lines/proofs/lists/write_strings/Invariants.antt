use Rattle.std.proofs.Common.{◌≡◌, ◌++◌, map, take}
use Rattle.std.specs.List.{join_with_byte}
use Rattle.std.specs.String.{string_bytes}
use Rattle.ipc_lines.specs.Texts.{bytes_text}
use Rattle.ipc_lines.proofs.lists.write_strings.Given as goal

abbrev pub invariant-loop-place : goal.invariant-loop-place
invariant-loop-place l = string_bytes l.out ≡ string_bytes l.initial.out ++ join_with_byte 44 (map bytes_text (take l.place l.strings))
