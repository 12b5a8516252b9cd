-- That each entry has a line of its own.
use Rattle.std.specs.Prelude.{◌≡◌}
use Rattle.ipc_history.specs.declared.entry.Entry.{Entry}
use Rattle.ipc_lines.specs.Lines.{entry_text}
use Rattle.ipc_lines.specs.Reading.{IsReadable}

-- two entries are not spelled alike
abbrev pub EachHasOneLine : Type 0
EachHasOneLine = (entry other : Entry) → IsReadable entry → IsReadable other
    → entry_text entry ≡ entry_text other → entry ≡ other
