-- What is written of a part, section by section.
use Rattle.std.specs.Prelude.{ℕ, List, ◌++◌, codes}
use Rattle.ipc_history.specs.declared.entry.Entry.{Entry}
use Rattle.ipc_trace.specs.Traces.{ended, trace_text}

-- a line, and behind it those of entries
abbrev pub section_text : List ℕ → List Entry → List ℕ
section_text text entries = ended text ++ trace_text entries

-- a text that ends with the line before the kept entries, these, and the entries that came since
abbrev pub lines_behind : List ℕ → List Entry → List Entry → List ℕ
lines_behind base kept entries = section_text base kept ++ section_text (codes "since") entries
