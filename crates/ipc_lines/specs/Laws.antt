-- What holds of all lines.
use Rattle.std.specs.Prelude.{◌≡◌, Contains}
use Rattle.ipc_history.specs.Outcomes.{OutcomeParts}
use Rattle.ipc_history.specs.declared.entry.Entry.{Entry}
use Rattle.ipc_lines.specs.Lines.{entry_text, entry_fields, outcome_text, outcome_fields}
use Rattle.ipc_lines.specs.Reading.{parts_at}

-- a line is one line: it holds no newline
abbrev pub LinesHoldNoNewline : Type 0
LinesHoldNoNewline =
    ((entry : Entry) → ¬ Contains (entry_text entry) 10)
    × ((outcome : OutcomeParts) → ¬ Contains (outcome_text outcome) 10)

-- the fields of a line are what stands between its spaces
abbrev pub LinesSplitIntoFields : Type 0
LinesSplitIntoFields =
    ((entry : Entry) → parts_at 32 (entry_text entry) ≡ entry_fields entry)
    × ((outcome : OutcomeParts) → parts_at 32 (outcome_text outcome) ≡ outcome_fields outcome)
