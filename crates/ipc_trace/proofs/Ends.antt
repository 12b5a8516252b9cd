-- How the reading of a trace ends.
use Rattle.std.proofs.Common.{◌≡◌, ◌≢◌, ℕ, ◌+◌, ◌≤◌, ◌<◌, Bool, true, false, IsTrue, Option, Some, None, IfSome, List, [], ◌∷◌, ◌++◌, Result, Ok, Err, length, refl, sym, ap, subst, ◌∙◌, arith, append_assoc, append-nil, inl, inr, ◌⊎◌}
use Rattle.std.proofs.lemmas.Bool.{cases_lt}
use Rattle.std.proofs.lemmas.List.{length-take, take_all}
use Rattle.std.specs.Io.KnownBytes.{Consumes, IsAtEnd, prepend_known}
use Rattle.std.proofs.KnownBytes.{Consumes-trans}
use mathlib.Core.List.{IsPrefix}
use Rattle.ipc_words.specs.Limits.{max_line_bytes}
use Rattle.ipc_history.specs.declared.entry.Entry.{Entry}
use Rattle.ipc_lines.specs.Limit.{LinesAreWithinTheLimit}
use Rattle.ipc_lines.specs.Lines.{entry_text}
use Rattle.ipc_lines.specs.Reading.{IsReadable}
use Rattle.ipc_lines.specs.declared.reading.LineFault.{LineFault}
use Rattle.ipc_lines.specs.declared.reading.LineFault.TheVariants as spelling
use Rattle.ipc_trace.specs.Reading.{kept, TakesLine}
use Rattle.ipc_trace.specs.Taking.{EndsSo, KeepsBadLine, ReadsLine, TakesEntry}
use Rattle.ipc_base.specs.Lines.{IsOneLine}
use Rattle.ipc_trace.specs.Traces.{HasUnknownVersion, IsBadBehind, IsNoEntry, IsRead, ended, versioned_text}
use Rattle.ipc_trace.specs.Versions.{header_lines, may_hold, tells_version, version_line, version_so_far}
use Rattle.ipc_trace.specs.declared.fault.LineFault.TheVariants as fault
use Rattle.ipc_trace.specs.declared.fault.TraceEnd.{TraceEnd}
use Rattle.ipc_trace.specs.declared.fault.TraceEnd.TheVariants as end
use Rattle.ipc_trace.specs.declared.lines.LineEnd.TheVariants as line_end
use Rattle.ipc_trace.specs.declared.version.TraceVersion.{TraceVersion}
use Rattle.ipc_trace.specs.declared.version.TraceVersion.TheVariants.{One, Two}
use Rattle.ipc_trace.proofs.Pieces.{kept_whole}
use Rattle.ipc_trace.proofs.Stages.{IsStage, LinesSoFar, is_version_line, no_version_told, tells_kept}

-- a buffer that holds nothing
pub unheld : (held : List ℕ) (rest : Option (List ℕ)) → length held ≡ 0 → prepend_known held rest ≡ rest
unheld [] None none = refl
unheld [] (Some x) none = refl
unheld (b ∷ bs) rest none = absurd (omega (arith, none))

pub begins : (a c : Option (List ℕ)) (front : List ℕ) → Consumes a c front → IfSome a (IsPrefix front)
begins None c front h = tt
begins (Some x) None front h = absurd h
begins (Some x) (Some z) front h = (z, sym h)

-- a line that spells no entry, though it is not kept whole
keeps_no_entry : (line : List ℕ) → LinesAreWithinTheLimit → ((entry : Entry) → IsReadable entry → line ≢ entry_text entry) → (text : List ℕ) → line ≡ kept text → IsNoEntry text
keeps_no_entry line within no_entry text is entry readable spelled =
    let short : length text ≤ max_line_bytes + 1 = omega (arith, ap length spelled, within entry readable) in
    no_entry entry readable (is ∙ take_all (max_line_bytes + 1) text short ∙ spelled)

-- a line that was found bad is not read as an entry
is_no_entry : (result : Result Entry LineFault) (entry : Entry) → result ≡ Err spelling.Bad → (result ≡ Ok entry) ⊎ (result ≡ Err spelling.NoMemory) → ⊥
is_no_entry result entry is (inl read) = cc
is_no_entry result entry is (inr none) = cc

-- a line that spells no entry is bad in a trace of each version
pub keeps_bad_line : (version : TraceVersion) (line : List ℕ) (result : Result Entry LineFault) → LinesAreWithinTheLimit
    → ((entry : Entry) → IsReadable entry → line ≡ entry_text entry → (result ≡ Ok entry) ⊎ (result ≡ Err spelling.NoMemory)) → result ≡ Err spelling.Bad
    → KeepsBadLine version line
keeps_bad_line version line result within only bad text is =
    inl (keeps_no_entry line within (λ entry readable spelled. is_no_entry result entry bad (only entry readable spelled)) text is)

read_is_not_bad : (result : Result Entry LineFault) (entry : Entry) → result ≡ Ok entry → result ≡ Err spelling.Bad → ⊥
read_is_not_bad result entry read bad = cc

-- a line that is read has not too many bytes
pub read_line_is_short : (line : List ℕ) (result : Result Entry LineFault) (entry : Entry) → result ≡ Ok entry
    → (max_line_bytes < length line → result ≡ Err spelling.Bad) → length line ≤ max_line_bytes
read_line_is_short line result entry read long = elim (cases_lt max_line_bytes (length line)) [
  | inl past ↦ absurd (read_is_not_bad result entry read (long past))
  | inr fits ↦ fits
]

-- and so is that of an entry which the version may not have
pub keeps_other_line : (version : TraceVersion) (line : List ℕ) (entry : Entry) → length line ≤ max_line_bytes → line ≡ entry_text entry → may_hold version entry ≡ false
    → KeepsBadLine version line
keeps_other_line version line entry short spelled other text is = inr (entry, kept_whole line text is short ∙ spelled, other)

-- nothing is kept only of nothing
pub kept_none : (line text : List ℕ) → line ≡ kept text → length line ≡ 0 → text ≡ []
kept_none line text is none = kept_whole line text is (omega (arith, none)) ∙ empty line none
  where
    empty : (xs : List ℕ) → length xs ≡ 0 → xs ≡ []
    empty [] e = refl
    empty (x ∷ xs) e = absurd (omega (arith, e))

pub ends_whole : (a b rest : Option (List ℕ)) (held : List ℕ) (told : Option TraceVersion) (entries : List Entry) (line : List ℕ) → LinesSoFar a b told entries
    → TakesLine b (prepend_known held rest) line line_end.Input → length held ≡ 0 → length line ≡ 0 → IsRead a rest (version_so_far told) entries end.Whole
ends_whole a b rest held told entries line so_far (text, is, one, taken, at_end) none empty =
    let same = unheld held rest none in
    let lines = versioned_text (version_so_far told) entries in
    let all : lines ++ text ≡ lines = ap (λ (t : List ℕ). lines ++ t) (kept_none line text is empty) ∙ append-nil lines in (
      so_far.held,
      subst (Consumes a rest) all (subst (λ r. Consumes a r (lines ++ text)) same (Consumes-trans a b (prepend_known held rest) lines text so_far.taken taken)),
      subst IsAtEnd same at_end,
    )

pub ends_torn : (a b rest : Option (List ℕ)) (held : List ℕ) (told : Option TraceVersion) (entries : List Entry) (line : List ℕ) → LinesSoFar a b told entries
    → TakesLine b (prepend_known held rest) line line_end.Input → length held ≡ 0 → 0 < length line → IsRead a rest (version_so_far told) entries end.Torn
ends_torn a b rest held told entries line so_far (text, is, one, taken, at_end) none some =
    let same = unheld held rest none in
    let lines = versioned_text (version_so_far told) entries in (
      so_far.held,
      (
        text,
        one,
        omega (arith, ap length is, length-take (max_line_bytes + 1) text, some),
        subst (λ r. Consumes a r (lines ++ text)) same (Consumes-trans a b (prepend_known held rest) lines text so_far.taken taken),
        subst IsAtEnd same at_end,
      ),
    )

pub ends_failed : (a b rest : Option (List ℕ)) (held : List ℕ) (told : Option TraceVersion) (entries : List Entry) (line : List ℕ) → LinesSoFar a b told entries
    → TakesLine b (prepend_known held rest) line line_end.Failed → length held ≡ 0 → IsRead a rest (version_so_far told) entries end.DeviceFailed
ends_failed a b rest held told entries line so_far (text, one, taken) none =
    let lines = versioned_text (version_so_far told) entries in (
      so_far.held,
      (text, one, subst (λ r. Consumes a r (lines ++ text)) (unheld held rest none) (Consumes-trans a b (prepend_known held rest) lines text so_far.taken taken)),
    )

pub ends_without_memory : (a b rest : Option (List ℕ)) (told : Option TraceVersion) (entries : List Entry) → LinesSoFar a b told entries
    → IsRead a rest (version_so_far told) entries end.NoMemory
ends_without_memory a b rest told entries so_far = (so_far.held, begins a b (versioned_text (version_so_far told) entries) so_far.taken)

-- an ending, by the version and the entries
moved : (a rest : Option (List ℕ)) (version other : TraceVersion) (entries more : List Entry) (at so : TraceEnd) → other ≡ version → more ≡ entries → at ≡ so
    → IsRead a rest version entries so → IsRead a rest other more at
moved a rest version other entries more at so same_version same ends read =
    subst (IsRead a rest other more) (sym ends)
    (subst (λ es. IsRead a rest other es so) (sym same) (subst (λ v. IsRead a rest v entries so) (sym same_version) read))

-- a bad line behind entries
bad_behind : (told : Option TraceVersion) (after : Option TraceVersion) (entries : List Entry) (line text : List ℕ) → line ≡ kept text
    → IsStage told entries → ReadsLine told after line (Err fault.Bad) → IsBadBehind (version_so_far told) entries text
bad_behind None after entries line text is stage (told, no_version, bad) =
    subst (λ es. IsBadBehind One es text) (sym stage) (bad text is, sym (tells_kept text) ∙ ap tells_version (sym is) ∙ no_version)
bad_behind (Some One) after [] line text is stage (told, bad) = absurd (omega (arith, stage))
bad_behind (Some One) after (entry ∷ entries) line text is stage (told, bad) = bad text is
bad_behind (Some Two) after entries line text is stage (told, bad) = bad text is

-- a first line of another version
unknown : (a c : Option (List ℕ)) (first : List ℕ) → IsOneLine first → first ≢ version_line → IsTrue (tells_version first) → Consumes a c (ended first)
    → IfSome a HasUnknownVersion
unknown None c first one other tells taken = tt
unknown (Some x) None first one other tells taken = absurd taken
unknown (Some x) (Some z) first one other tells taken = record { first = first; rest = z; one = one; is_other = other; tells = tells; bytes_are = taken }

other_first : (a b c rest : Option (List ℕ)) (before after : Option TraceVersion) (entries : List Entry) (line : List ℕ) → LinesSoFar a b before entries
    → TakesLine b c line line_end.Newline → ReadsLine before after line (Err fault.UnknownVersion) → IsRead a rest (version_so_far before) entries end.UnknownVersion
other_first a b c rest None after entries line so_far (text, is, one, taken) (told, other, tells) =
    let nothing : Consumes a b [] = subst (λ es. Consumes a b (versioned_text One es)) so_far.stage so_far.taken in
    let is_other : text ≢ version_line = λ same. other (is ∙ ap kept same ∙ take_all (max_line_bytes + 1) version_line (omega arith)) in (
      refl,
      so_far.stage,
      unknown a c text one is_other (subst IsTrue (ap tells_version is ∙ tells_kept text) tells) (Consumes-trans a b c [] (ended text) nothing taken),
    )
other_first a b c rest (Some version) after entries line so_far read never = absurd never

-- a whole line ends the reading
pub ends_at_line : (a b c rest : Option (List ℕ)) (before after : Option TraceVersion) (entries more : List Entry) (line : List ℕ) (at : TraceEnd) → LinesSoFar a b before entries
    → TakesLine b c line line_end.Newline → TakesEntry before after entries more line (Some at) → IsRead a rest (version_so_far after) more at
ends_at_line a b c rest before after entries more line at so_far read (same, inl (ends, (entry, reads))) =
    moved a rest (version_so_far before) (version_so_far after) entries more at end.NoMemory (no_version_told before after line (Ok (Some entry)) reads tt) same ends
    (ends_without_memory a b rest before entries so_far)
ends_at_line a b c rest before after entries more line at so_far (text, is, one, taken) (same, inr (fault.Bad, reads, ends)) =
    let version = no_version_told before after line (Err fault.Bad) reads tt in
    let lines = versioned_text (version_so_far before) entries in
    moved a rest (version_so_far before) (version_so_far after) entries more at (end.BadLine (header_lines (version_so_far after) + length entries + 1)) version same ends (
      so_far.held,
      ap (λ v. header_lines v + length entries + 1) version,
      (
        text,
        one,
        bad_behind before after entries line text is so_far.stage reads,
        begins a c (lines ++ ended text) (Consumes-trans a b c lines (ended text) so_far.taken taken),
      ),
    )
ends_at_line a b c rest before after entries more line at so_far read (same, inr (fault.UnknownVersion, reads, ends)) =
    moved a rest (version_so_far before) (version_so_far after) entries more at end.UnknownVersion
    (no_version_told before after line (Err fault.UnknownVersion) reads tt) same ends (other_first a b c rest before after entries line so_far read reads)
ends_at_line a b c rest before after entries more line at so_far read (same, inr (fault.NoMemory, reads, ends)) =
    moved a rest (version_so_far before) (version_so_far after) entries more at end.NoMemory
    (no_version_told before after line (Err fault.NoMemory) reads tt) same ends (ends_without_memory a b rest before entries so_far)

pub newline_is_no_failure : line_end.Newline ≢ line_end.Failed
newline_is_no_failure is = cc

pub input_is_no_newline : line_end.Input ≢ line_end.Newline
input_is_no_newline is = cc

pub input_is_not_no_memory : line_end.Input ≢ line_end.NoMemory
input_is_not_no_memory is = cc

pub input_is_no_failure : line_end.Input ≢ line_end.Failed
input_is_no_failure is = cc

pub no_memory_is_no_failure : line_end.NoMemory ≢ line_end.Failed
no_memory_is_no_failure is = cc

pub failed_is_no_newline : line_end.Failed ≢ line_end.Newline
failed_is_no_newline is = cc

pub failed_is_not_no_memory : line_end.Failed ≢ line_end.NoMemory
failed_is_not_no_memory is = cc

-- a line that is taken is no failure of the device
pub taken_is_no_failure : (before after : Option TraceVersion) (entries more : List Entry) (line : List ℕ) (at : TraceEnd) → TakesEntry before after entries more line (Some at)
    → at ≢ end.DeviceFailed
taken_is_no_failure before after entries more line at (same, inl (ends, read)) is = cc (ends, is)
taken_is_no_failure before after entries more line at (same, inr (fault.Bad, reads, ends)) is = cc (ends, is)
taken_is_no_failure before after entries more line at (same, inr (fault.UnknownVersion, reads, ends)) is = cc (ends, is)
taken_is_no_failure before after entries more line at (same, inr (fault.NoMemory, reads, ends)) is = cc (ends, is)
