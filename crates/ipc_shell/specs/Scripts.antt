-- The run of a script over a state of any kind: its lines, and what is printed. A relation says
-- what a line that is not empty makes of a state, and what is printed for it.
use Rattle.std.specs.Prelude.{◌≡◌, ℕ, ◌+◌, ◌<◌, ◌≤◌, List, [], ◌∷◌, ◌++◌, Option, Some, None}
use Rattle.std.specs.Prelude.{IfSome, length, ◌⊎◌}
use Rattle.std.specs.Io.KnownBytes.{Appends}
use Rattle.ipc_base.specs.Ports.{AppendsFront}
use Rattle.ipc_words.specs.Limits.{max_line_bytes}
use Rattle.ipc_shell.specs.ScriptLines.{lines_of}
use Rattle.ipc_shell.specs.declared.exit.Exit.{Exit}
use Rattle.ipc_shell.specs.declared.exit.Exit.TheVariants.{Done, BadLine, NoMemory, DeviceFailed}

-- an empty line is skipped; any other is short enough and is obeyed
abbrev pub ObeysLine : {S : Type 0} → (S → List ℕ → List ℕ → S → Type 0)
    → S → List ℕ → List ℕ → S → Type 0
ObeysLine Obeys old [] text new = (text ≡ []) × (new ≡ old)
ObeysLine Obeys old (byte ∷ bytes) text new =
    (length (byte ∷ bytes) ≤ max_line_bytes) × Obeys old (byte ∷ bytes) text new

-- lines, one after the other, and what is printed for them
abbrev pub ObeysLines : {S : Type 0} → (S → List ℕ → List ℕ → S → Type 0)
    → S → List (List ℕ) → List ℕ → S → Type 0
ObeysLines Obeys old [] text new = (text ≡ []) × (new ≡ old)
ObeysLines {S} Obeys old (line ∷ lines) text new = (between : S)
    × ((first : List ℕ) × ((rest : List ℕ) × (text ≡ first ++ rest)
    × ObeysLine Obeys old line first between × ObeysLines Obeys between lines rest new))

-- a line is bad in a state where it is too long, or is not empty and no command there
abbrev pub IsBadLine : {S : Type 0} → (S → List ℕ → Type 0) → S → List ℕ → Type 0
IsBadLine IsNone state line = (max_line_bytes < length line) ⊎ ((0 < length line) × IsNone state line)

-- a bad line ends the run: what is printed is that of the lines before it, whose number is counted
-- from 1, empty lines too
pub record EndsAtBadLine {S : Type 0} (Obeys : S → List ℕ → List ℕ → S → Type 0)
    (IsNone : S → List ℕ → Type 0) (start : S) (lines : List (List ℕ)) (text : List ℕ)
    (number : ℕ) : Type 0 where
  pub before : List (List ℕ)
  pub bad : List ℕ
  pub after : List (List ℕ)
  pub last : S
  pub lines_are : lines ≡ before ++ bad ∷ after
  pub is_bad : IsBadLine IsNone last bad
  pub number_is : number ≡ length before + 1
  pub printed : ObeysLines Obeys start before text last

-- the run stops after some lines, and this is printed for them
pub record StopsAfterLines {S : Type 0} (Obeys : S → List ℕ → List ℕ → S → Type 0)
    (start : S) (lines : List (List ℕ)) (text : List ℕ) : Type 0 where
  pub before : List (List ℕ)
  pub after : List (List ℕ)
  pub last : S
  pub lines_are : lines ≡ before ++ after
  pub printed : ObeysLines Obeys start before text last

-- what is printed of these lines where the run ends so; where a read or a write failed, the end of
-- what was to be printed may be missing
abbrev pub Prints : {S : Type 0} → (S → List ℕ → List ℕ → S → Type 0)
    → (S → List ℕ → Type 0) → S → List (List ℕ) → List ℕ → Exit → Type 0
Prints {S} Obeys IsNone start lines text Done =
    (last : S) × ObeysLines Obeys start lines text last
Prints Obeys IsNone start lines text (BadLine number) =
    EndsAtBadLine Obeys IsNone start lines text number
Prints Obeys IsNone start lines text NoMemory = StopsAfterLines Obeys start lines text
Prints Obeys IsNone start lines text DeviceFailed =
    (missing : List ℕ) × StopsAfterLines Obeys start lines (text ++ missing)
Prints Obeys IsNone start lines text other = ⊥

-- where a reader and a writer tell their bytes: what a run appends to the writer's is what is
-- printed of the reader's lines
abbrev pub RunsLines : {S : Type 0} → (S → List ℕ → List ℕ → S → Type 0)
    → (S → List ℕ → Type 0) → S → Option (List ℕ) → Option (List ℕ) → Option (List ℕ)
    → Exit → Type 0
RunsLines Obeys IsNone start bytes before after exit = IfSome bytes (λ bytes. (text : List ℕ)
    × Appends before after text × Prints Obeys IsNone start (lines_of bytes) text exit)

-- how a line that is not empty ends: not at all where the run goes on; what it appends to the
-- writer's bytes
abbrev pub EndsAtLine : {S : Type 0} → (S → List ℕ → List ℕ → S → Type 0)
    → (S → List ℕ → Type 0) → S → S → Option (List ℕ) → Option (List ℕ) → List ℕ → ℕ
    → Option Exit → Type 0
EndsAtLine Obeys IsNone old new before after line number None =
    (text : List ℕ) × Obeys old line text new × Appends before after text
EndsAtLine Obeys IsNone old new before after line number (Some (BadLine n)) =
    (n ≡ number) × IsNone old line × Appends before after []
EndsAtLine Obeys IsNone old new before after line number (Some NoMemory) = Appends before after []
EndsAtLine Obeys IsNone old new before after line number (Some DeviceFailed) =
    (text : List ℕ) × Obeys old line text new × AppendsFront before after text
EndsAtLine Obeys IsNone old new before after line number (Some other) = ⊥
