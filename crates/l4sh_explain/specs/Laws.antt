-- What the definitions of a reason are worth: the rules of a call are its normal form, and a good
-- line of a trace is the line of an entry.
use Rattle.std.specs.Prelude.{◌≡◌, ◌↔◌, ℕ, IsTrue, List, None}
use Rattle.ipc_history.specs.CallParts.{CallParts, is_normal}
use Rattle.ipc_history.specs.declared.entry.Entry.{Entry}
use Rattle.ipc_lines.specs.Lines.{entry_text}
use Rattle.ipc_lines.specs.Reading.{IsReadable}
use Rattle.l4sh_explain.specs.declared.grammars.Grammar.TheVariants.{Trace}
use Rattle.l4sh_explain.specs.Rules.{IsWellFormed, shape_of, broken_rule}
use Rattle.l4sh_explain.specs.Reasons.{Reads}

-- a well-formed call breaks no rule exactly where it is in normal form
abbrev pub RulesAreTheNormalForm : Type 0
RulesAreTheNormalForm = (thread : ℕ) (call : CallParts) → IsWellFormed thread call
    → (broken_rule (shape_of call) ≡ None) ↔ IsTrue (is_normal call)

-- a line of a trace is good exactly where an entry is spelled by it
abbrev pub GoodTraceLinesAreEntries : Type 0
GoodTraceLinesAreEntries = (line : List ℕ)
    → Reads Trace line ↔ ((entry : Entry) × IsReadable entry × (line ≡ entry_text entry))
