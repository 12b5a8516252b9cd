-- Our choice (docs/FORMATS.md): the versions of a trace, the line that tells one, and what each may
-- hold.
use Rattle.std.specs.Prelude.{◌≡◌, ◌≢◌, ℕ, Bool, true, false, nat_eq, nat_le, List, [], ◌∷◌, ◌++◌, Option, Some, None, IsTrue, codes}
use Rattle.std.specs.List.{All, starts_with}
use Rattle.ipc_words.specs.ThreadIdKind.{kind_of}
use Rattle.ipc_words.specs.declared.thread_id.ThreadIdKind.{ThreadIdKind}
use Rattle.ipc_words.specs.declared.thread_id.ThreadIdKind.TheVariants.{Nilthread, Anythread, Anylocalthread, Global, Other}
use Rattle.ipc_history.specs.declared.entry.Entry.{Entry}
use Rattle.ipc_history.specs.declared.entry.Entry.TheVariants.{Given, Written}
use Rattle.ipc_history.specs.declared.entry.Input.{Input}
use Rattle.ipc_history.specs.declared.entry.Input.TheVariants.{At, Opened, Called, Exreg, Broke, Moved}
use Rattle.ipc_trace.specs.declared.version.FirstLine.{FirstLine}
use Rattle.ipc_trace.specs.declared.version.FirstLine.TheVariants as first
use Rattle.ipc_trace.specs.declared.version.TraceVersion.{TraceVersion}
use Rattle.ipc_trace.specs.declared.version.TraceVersion.TheVariants.{One, Two}

-- the version that is written
abbrev pub newest : TraceVersion
newest = Two

-- a first line that begins so tells a version
abbrev pub version_word : List ℕ
version_word = codes "l4trace"

-- the first line of a trace of version 2
abbrev pub version_line : List ℕ
version_line = codes "l4trace 2"

abbrev pub tells_version : List ℕ → Bool
tells_version line = starts_with nat_eq line version_word

-- what a first line is
abbrev pub IsFirstLine : List ℕ → FirstLine → Type 0
IsFirstLine line first.OfVersion2 = line ≡ version_line
IsFirstLine line first.OfOtherVersion = (line ≢ version_line) × IsTrue (tells_version line)
IsFirstLine line first.OfNoVersion = tells_version line ≡ false

-- the lines that stand before those of the entries
abbrev pub header_lines : TraceVersion → ℕ
header_lines One = 0
header_lines Two = 1

abbrev pub header_text : TraceVersion → List ℕ
header_text One = []
header_text Two = version_line ++ 10 ∷ []

-- the greatest number of a thread that is opened in a trace of version 1
abbrev pub max_thread_number_of_version_1 : ℕ
max_thread_number_of_version_1 = 255

-- whether a trace of version 1 may have this thread opened, which is judged of global ids alone
abbrev pub may_open_in_version_1 : ThreadIdKind → Bool
may_open_in_version_1 Nilthread = true
may_open_in_version_1 Anythread = true
may_open_in_version_1 Anylocalthread = true
may_open_in_version_1 (Global number version) = nat_le number max_thread_number_of_version_1
may_open_in_version_1 Other = true

abbrev pub may_give_in_version_1 : Input → Bool
may_give_in_version_1 (At moment) = true
may_give_in_version_1 (Opened thread space) = may_open_in_version_1 (kind_of thread)
may_give_in_version_1 (Called number thread call) = true
may_give_in_version_1 (Exreg thread dest control) = true
may_give_in_version_1 (Broke thread) = true
may_give_in_version_1 (Moved number count) = true

-- whether a trace of this version may have this entry
abbrev pub may_hold : TraceVersion → Entry → Bool
may_hold One (Given input) = may_give_in_version_1 input
may_hold One (Written output) = true
may_hold Two entry = true

abbrev pub MayHold : TraceVersion → List Entry → Type 0
MayHold version entries = All (λ entry. IsTrue (may_hold version entry)) entries

-- the version of a trace of which the first lines were read: 1 until a line tells another one
abbrev pub version_so_far : Option TraceVersion → TraceVersion
version_so_far None = One
version_so_far (Some version) = version
