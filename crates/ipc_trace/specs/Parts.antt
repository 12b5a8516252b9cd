-- Our choice (docs/FORMATS.md): a part of a trace, which begins in the middle of a history, and its
-- text.
use Rattle.std.specs.Prelude.{◌≡◌, ℕ, ◌+◌, ◌^◌, ◌<◌, List, [], ◌∷◌, ◌++◌, ◌==◌, ◌&&◌, if◌then◌else◌, length, map}
use Rattle.std.specs.List.{All, flat_map}
use Rattle.ipc_words.specs.Limits.{table_slots}
use Rattle.ipc_history.specs.declared.entry.Entry.{Entry}
use Rattle.ipc_lines.specs.Reading.{IsReadable, IsWord}
use Rattle.ipc_trace.specs.Traces.{ended}
use Rattle.ipc_compact.specs.Compact.{Base}
use Rattle.ipc_trace.specs.Lines.{line_text}
use Rattle.ipc_trace.specs.declared.line.PartLine.{PartLine}
use Rattle.ipc_trace.specs.declared.line.PartLine.TheVariants as line

-- the base of the history before it, the entries that are kept of that history, and the entries
-- that came since
pub record PartParts : Type 0 where
  pub base : Base
  pub kept : List Entry
  pub entries : List Entry

-- a thread number has a line where it had a thread, or where calls of it are not kept
abbrev pub number_line : ℕ → ℕ → ℕ → List PartLine
number_line number version dropped =
    if (version == 0) && (dropped == 0) then [] else line.Number number version dropped ∷ []

-- the lines of the thread numbers from one on
abbrev pub number_lines : ℕ → List ℕ → List ℕ → List PartLine
number_lines number [] dropped = []
number_lines number (version ∷ versions) [] = []
number_lines number (version ∷ versions) (count ∷ dropped) =
    number_line number version count ++ number_lines (number + 1) versions dropped

abbrev pub entry_lines : List Entry → List PartLine
entry_lines entries = map (λ entry. line.Entry entry) entries

abbrev pub over_lines : List ℕ → List PartLine
over_lines over = map (λ call. line.Over call) over

-- the lines of a base
abbrev pub base_lines : Base → List PartLine
base_lines base =
    line.Version ∷ line.Moment base.moment ∷ line.Calls base.calls ∷ line.Takes base.takes
    ∷ (number_lines 0 base.versions base.dropped ++ over_lines base.over)

-- the lines of a part
abbrev pub lines_of : PartParts → List PartLine
lines_of part =
    base_lines part.base ++ line.Kept ∷ (entry_lines part.kept ++ line.Since ∷ entry_lines part.entries)

-- lines, each with its newline
abbrev pub lines_text : List PartLine → List ℕ
lines_text lines = flat_map (λ one. ended (line_text one)) lines

-- the text of a part
abbrev pub part_text : PartParts → List ℕ
part_text part = lines_text (lines_of part)

-- a base of words, of each thread number that there is
pub record IsBase (base : Base) : Type 0 where
  pub moment : IsWord base.moment
  pub calls : IsWord base.calls
  pub takes : IsWord base.takes
  pub versions : All (λ version. version < 2 ^ 32) base.versions
  pub dropped : All IsWord base.dropped
  pub over : All IsWord base.over
  pub all_versions : length base.versions ≡ table_slots
  pub all_dropped : length base.dropped ≡ table_slots

-- a part of which each line can be read
pub record IsPart (part : PartParts) : Type 0 where
  pub base : IsBase part.base
  pub kept : All IsReadable part.kept
  pub entries : All IsReadable part.entries
