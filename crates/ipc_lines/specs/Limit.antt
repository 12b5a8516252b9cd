-- Our choice (docs/FORMATS.md): how long a line is at most.
use Rattle.std.specs.Prelude.{ℕ, ◌≤◌, length}
use Rattle.ipc_words.specs.Limits.{max_line_bytes}
use Rattle.ipc_history.specs.declared.entry.Entry.{Entry}
use Rattle.ipc_lines.specs.Lines.{entry_text}
use Rattle.ipc_lines.specs.Reading.{IsReadable}

-- the most bytes of a line; its newline, which is one byte more, is not part of it
abbrev pub most_bytes : ℕ
most_bytes = max_line_bytes

-- every entry has a line of at most so many bytes
abbrev pub LinesAreWithinTheLimit : Type 0
LinesAreWithinTheLimit = (entry : Entry) → IsReadable entry → length (entry_text entry) ≤ most_bytes
