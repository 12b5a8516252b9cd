-- What the lines of a trace that were read so far are, and how the next one adds to them.
use Rattle.std.proofs.Common.{◌≡◌, ◌≢◌, ℕ, ◌+◌, ◌≤◌, ◌<◌, Bool, true, false, IsTrue, Option, Some, None, List, [], ◌∷◌, ◌++◌, Result, Ok, Err, length, refl, sym, ap, subst, ◌∙◌, arith, append_assoc, append-nil, nat_eq}
use lib.Pointwise.{pointwise}
use Rattle.std.proofs.lemmas.List.{take-take, take_all}
use Rattle.std.proofs.lemmas.List.Elements.{All-nil, All-push}
use Rattle.std.proofs.lemmas.Grind.{flat_map-append}
use Rattle.std.specs.Io.KnownBytes.{Consumes}
use Rattle.std.proofs.KnownBytes.{Consumes-trans, Consumes-nil}
use Rattle.ipc_words.specs.Limits.{max_line_bytes}
use Rattle.ipc_history.specs.declared.entry.Entry.{Entry}
use Rattle.ipc_lines.specs.Lines.{entry_text}
use Rattle.ipc_trace.specs.Reading.{kept, TakesLine}
use Rattle.ipc_trace.specs.Taking.{AddsEntry, ReadsEntry, ReadsLine, TakesEntry}
use Rattle.ipc_trace.specs.Traces.{ended, trace_text, versioned_text}
use Rattle.ipc_trace.specs.Versions.{MayHold, header_text, may_hold, tells_version, version_line, version_so_far, version_word}
use Rattle.ipc_trace.specs.declared.fault.LineFault.{LineFault}
use Rattle.ipc_trace.specs.declared.fault.LineFault.TheVariants as fault
use Rattle.ipc_trace.specs.declared.lines.LineEnd.TheVariants as line_end
use Rattle.ipc_trace.specs.declared.version.TraceVersion.{TraceVersion}
use Rattle.ipc_trace.specs.declared.version.TraceVersion.TheVariants.{One, Two}
use Rattle.ipc_trace.proofs.Pieces.{kept_whole}

-- before the first line there is no entry; the first line of a trace of version 1 is an entry's
abbrev pub IsStage : Option TraceVersion → List Entry → Type 0
IsStage None entries = entries ≡ []
IsStage (Some One) entries = 0 < length entries
IsStage (Some Two) entries = Unit {0}

-- the lines so far
pub record LinesSoFar (old new : Option (List ℕ)) (told : Option TraceVersion) (entries : List Entry) : Type 0 where
  pub stage : IsStage told entries
  pub held : MayHold (version_so_far told) entries
  pub taken : Consumes old new (versioned_text (version_so_far told) entries)

pub no_entries : (entries : List Entry) → length entries ≡ 0 → entries ≡ []
no_entries [] none = refl
no_entries (entry ∷ entries) none = absurd (omega (arith, none))

-- no line so far
pub no_lines : (old : Option (List ℕ)) (told : Option TraceVersion) (entries : List Entry) → told ≡ None → length entries ≡ 0 → LinesSoFar old old told entries
no_lines old told entries first none =
    subst (λ t. LinesSoFar old old t entries) (sym first) (subst (LinesSoFar old old None) (sym (no_entries entries none)) begun)
  where
    begun : LinesSoFar old old None []
    begun = record { stage = refl; held = All-nil (λ entry. IsTrue (may_hold One entry)); taken = Consumes-nil old }

-- a line tells a version as what is kept of it does
pub tells_kept : (text : List ℕ) → tells_version (kept text) ≡ tells_version text
tells_kept text = ap (λ front. pointwise nat_eq version_word front) (take-take 7 (max_line_bytes + 1) text (omega arith))

-- the version line is kept whole
pub is_version_line : (line text : List ℕ) → line ≡ kept text → line ≡ version_line → text ≡ version_line
is_version_line line text is told = kept_whole line text is (omega (arith, ap length told)) ∙ told

-- an entry of a line of a trace of this version is added
record EntryAdded (old new : Option (List ℕ)) (version : TraceVersion) (entries : List Entry) : Type 0 where
  held : MayHold version entries
  taken : Consumes old new (versioned_text version entries)

add_entry : (a b c : Option (List ℕ)) (version : TraceVersion) (entries more : List Entry) (line : List ℕ) (entry : Entry) → MayHold version entries
    → Consumes a b (versioned_text version entries) → TakesLine b c line line_end.Newline → ReadsEntry version line (Ok entry) → more ≡ entries ++ entry ∷ []
    → EntryAdded a c version more
add_entry a b c version entries more line entry held so_far (text, is, one, taken) (spelled, may, short) appended =
    let whole : text ≡ entry_text entry = kept_whole line text is short ∙ spelled in
    let last : trace_text (entry ∷ []) ≡ ended text = append-nil (ended (entry_text entry)) ∙ ap ended (sym whole) in
    let lines : trace_text more ≡ trace_text entries ++ ended text =
    ap trace_text appended ∙ flat_map-append (λ e. ended (entry_text e)) entries (entry ∷ []) ∙ ap (λ (t : List ℕ). trace_text entries ++ t) last in
    let all : versioned_text version more ≡ versioned_text version entries ++ ended text =
    ap (λ (t : List ℕ). header_text version ++ t) lines ∙ sym (append_assoc (header_text version) (trace_text entries) (ended text)) in
    record {
      held = subst (MayHold version) (sym appended) (All-push (λ e. IsTrue (may_hold version e)) entries entry held may);
      taken = subst (Consumes a c) (sym all) (Consumes-trans a b c (versioned_text version entries) (ended text) so_far taken);
    }

-- where an entry was added there is one
some_entry : (entries more : List Entry) (entry : Entry) → more ≡ entries ++ entry ∷ [] → 0 < length more
some_entry [] more entry is = omega (arith, ap length is)
some_entry (e ∷ es) more entry is = omega (arith, ap length is)

-- one line more
pub one_more : (a b c : Option (List ℕ)) (before after : Option TraceVersion) (entries more : List Entry) (line : List ℕ) → LinesSoFar a b before entries
    → TakesLine b c line line_end.Newline → TakesEntry before after entries more line None → LinesSoFar a c after more
one_more a b c None after entries more line so_far (text, is, one, taken) (None, (told, is_header), same) =
    let none : more ≡ [] = same ∙ so_far.stage in
    let header : text ≡ version_line = is_version_line line text is is_header in
    let first : Consumes a b [] = subst (λ es. Consumes a b (versioned_text One es)) so_far.stage so_far.taken in
    let all : Consumes a c (versioned_text Two []) = subst (λ t. Consumes a c (ended t)) header (Consumes-trans a b c [] (ended text) first taken) in
    subst (λ t. LinesSoFar a c t more) (sym told) (record {
      stage = tt;
      held = subst (MayHold Two) (sym none) (All-nil (λ entry. IsTrue (may_hold Two entry)));
      taken = subst (λ es. Consumes a c (versioned_text Two es)) (sym none) all;
    })
one_more a b c None after entries more line so_far read (Some entry, (told, no_header, reads), appended) =
    let added = add_entry a b c One entries more line entry so_far.held so_far.taken read reads appended in
    subst (λ t. LinesSoFar a c t more) (sym told) (record { stage = some_entry entries more entry appended; held = added.held; taken = added.taken })
one_more a b c (Some version) after entries more line so_far read (None, never, same) = absurd never
one_more a b c (Some One) after entries more line so_far read (Some entry, (told, reads), appended) =
    let added = add_entry a b c One entries more line entry so_far.held so_far.taken read reads appended in
    subst (λ t. LinesSoFar a c t more) (sym told) (record { stage = some_entry entries more entry appended; held = added.held; taken = added.taken })
one_more a b c (Some Two) after entries more line so_far read (Some entry, (told, reads), appended) =
    let added = add_entry a b c Two entries more line entry so_far.held so_far.taken read reads appended in
    subst (λ t. LinesSoFar a c t more) (sym told) (record { stage = tt; held = added.held; taken = added.taken })

-- what is read tells no version
abbrev pub TellsNone : Result (Option Entry) LineFault → Type 0
TellsNone (Ok None) = ⊥
TellsNone (Ok (Some entry)) = Unit {0}
TellsNone (Err wrong) = Unit {0}

-- the version is then as it was
pub no_version_told : (before after : Option TraceVersion) (line : List ℕ) (result : Result (Option Entry) LineFault) → ReadsLine before after line result
    → TellsNone result → version_so_far after ≡ version_so_far before
no_version_told None after line (Ok None) reads none = absurd none
no_version_told None after line (Ok (Some entry)) reads none = ap version_so_far reads.0
no_version_told None after line (Err fault.Bad) reads none = ap version_so_far reads.0
no_version_told None after line (Err fault.UnknownVersion) reads none = ap version_so_far reads.0
no_version_told None after line (Err fault.NoMemory) reads none = ap version_so_far reads
no_version_told (Some version) after line (Ok None) reads none = absurd none
no_version_told (Some version) after line (Ok (Some entry)) reads none = ap version_so_far reads.0
no_version_told (Some version) after line (Err fault.Bad) reads none = ap version_so_far reads.0
no_version_told (Some version) after line (Err fault.UnknownVersion) reads none = absurd reads
no_version_told (Some version) after line (Err fault.NoMemory) reads none = ap version_so_far reads
