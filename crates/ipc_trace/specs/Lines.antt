-- Our choice (docs/FORMATS.md): the lines of a part of a trace, where each may stand, and their
-- texts.
use Rattle.std.specs.Prelude.{ℕ, ◌^◌, ◌<◌, List, [], ◌∷◌, ◌++◌, Bool, true, false, codes}
use Rattle.std.specs.Fmt.{decimal}
use Rattle.ipc_lines.specs.Lines.{entry_text, spaced}
use Rattle.ipc_lines.specs.Reading.{IsReadable, IsWord}
use Rattle.ipc_trace.specs.declared.line.PartLine.{PartLine}
use Rattle.ipc_trace.specs.declared.line.PartLine.TheVariants as line
use Rattle.ipc_trace.specs.declared.line.Stage.{Stage}
use Rattle.ipc_trace.specs.declared.line.Stage.TheVariants as stage

-- what the lines begin with that have numbers
abbrev pub moment_word : List ℕ
moment_word = codes "moment "

abbrev pub calls_word : List ℕ
calls_word = codes "calls "

abbrev pub takes_word : List ℕ
takes_word = codes "takes "

abbrev pub number_word : List ℕ
number_word = codes "number "

abbrev pub over_word : List ℕ
over_word = codes "over "

-- the three numbers of a thread number
abbrev pub number_fields : ℕ → ℕ → ℕ → List (List ℕ)
number_fields number version dropped = decimal number ∷ decimal version ∷ decimal dropped ∷ []

-- the text of a line, without its newline
abbrev pub line_text : PartLine → List ℕ
line_text line.Version = codes "l4part 1"
line_text (line.Moment moment) = moment_word ++ decimal moment
line_text (line.Calls calls) = calls_word ++ decimal calls
line_text (line.Takes takes) = takes_word ++ decimal takes
line_text (line.Number number version dropped) = number_word ++ spaced (number_fields number version dropped)
line_text (line.Over call) = over_word ++ decimal call
line_text line.Kept = codes "kept"
line_text line.Since = codes "since"
line_text (line.Entry entry) = entry_text entry

-- a line of words, of a version of 32 bits, and of an entry that can be read
abbrev pub IsReadableLine : PartLine → Type 0
IsReadableLine line.Version = Unit {0}
IsReadableLine (line.Moment moment) = IsWord moment
IsReadableLine (line.Calls calls) = IsWord calls
IsReadableLine (line.Takes takes) = IsWord takes
IsReadableLine (line.Number number version dropped) = IsWord number × (version < 2 ^ 32) × IsWord dropped
IsReadableLine (line.Over call) = IsWord call
IsReadableLine line.Kept = Unit {0}
IsReadableLine line.Since = Unit {0}
IsReadableLine (line.Entry entry) = IsReadable entry

-- whether a line may stand where the part has come so far
abbrev pub may_stand : Stage → PartLine → Bool
may_stand stage.Version line.Version = true
may_stand stage.Moment (line.Moment moment) = true
may_stand stage.Calls (line.Calls calls) = true
may_stand stage.Takes (line.Takes takes) = true
may_stand stage.Numbers (line.Number number version dropped) = true
may_stand stage.Numbers (line.Over call) = true
may_stand stage.Numbers line.Kept = true
may_stand stage.Overs (line.Over call) = true
may_stand stage.Overs line.Kept = true
may_stand stage.Kept (line.Entry entry) = true
may_stand stage.Kept line.Since = true
may_stand stage.Since (line.Entry entry) = true
may_stand _ _ = false
