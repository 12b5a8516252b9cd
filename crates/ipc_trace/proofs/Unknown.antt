-- Bytes whose first line tells an unknown version are read as nothing else.
use Rattle.std.proofs.Common.{◌≡◌, ◌≢◌, ℕ, ◌+◌, ◌<◌, Bool, true, false, IsTrue, Option, Some, None, IfSome, List, [], ◌∷◌, ◌++◌, length, get_or, drop, refl, sym, ap, subst, ◌∙◌, arith, append_assoc, append-nil}
use Rattle.std.specs.Prelude.{Contains}
use Rattle.std.proofs.lemmas.List.{length-append}
use Rattle.std.proofs.lemmas.List.Elements.{All-cons, All-contains_itself, All-head, All-nil, All-tail}
use Rattle.ipc_history.specs.declared.entry.Entry.{Entry}
use Rattle.ipc_history.specs.declared.entry.Entry.TheVariants.{Given, Written}
use Rattle.ipc_history.specs.declared.entry.Input.TheVariants.{At, Opened, Called, Exreg, Broke, Moved}
use Rattle.ipc_history.specs.declared.entry.Output.TheVariants.{Began, Turned, Ended, Overflowed, Aborted, Failed}
use Rattle.ipc_lines.specs.Laws.{LinesHoldNoNewline}
use Rattle.ipc_lines.specs.Lines.{entry_text}
use Rattle.ipc_base.specs.Lines.{IsOneLine}
use Rattle.ipc_trace.specs.Traces.{HasUnknownVersion, IsBadBehind, IsRead, MayEndAtUnknown, ended, trace_text, versioned_text}
use Rattle.ipc_trace.specs.Versions.{tells_version, version_line}
use Rattle.ipc_trace.specs.declared.fault.TraceEnd.{TraceEnd}
use Rattle.ipc_trace.specs.declared.fault.TraceEnd.TheVariants as end
use Rattle.ipc_trace.specs.declared.version.TraceVersion.{TraceVersion}
use Rattle.ipc_trace.specs.declared.version.TraceVersion.TheVariants.{One, Two}

-- no entry's line tells a version
no_entry_tells : (entry : Entry) → tells_version (entry_text entry) ≡ false
no_entry_tells (Given (At moment)) = refl
no_entry_tells (Given (Opened thread space)) = refl
no_entry_tells (Given (Called number thread call)) = refl
no_entry_tells (Given (Exreg thread dest control)) = refl
no_entry_tells (Given (Broke thread)) = refl
no_entry_tells (Given (Moved number count)) = refl
no_entry_tells (Written (Began sending receiving)) = refl
no_entry_tells (Written (Turned receiving thread)) = refl
no_entry_tells (Written (Ended sending receiving)) = refl
no_entry_tells (Written (Overflowed sending receiving offset)) = refl
no_entry_tells (Written (Aborted sending receiving count)) = refl
no_entry_tells (Written (Failed number code)) = refl

pub one_line : (text : List ℕ) → (Contains text 10 → ⊥) → IsOneLine text
one_line text lacks = λ k d less same. lacks (subst (Contains text) same (All-contains_itself text k d less))

abbrev is_other : ℕ → Type 0
is_other byte = byte ≢ 10

pub head_of : (c d : ℕ) (xs ys : List ℕ) → c ∷ xs ≡ d ∷ ys → c ≡ d
head_of c d xs ys same = ap (λ (l : List ℕ). get_or l 0 c) same

pub tail_of : (c d : ℕ) (xs ys : List ℕ) → c ∷ xs ≡ d ∷ ys → xs ≡ ys
tail_of c d xs ys same = ap (λ (l : List ℕ). drop 1 l) same

version_is_one_line : IsOneLine version_line
version_is_one_line =
    All-cons is_other 108 (drop 1 version_line) (λ e. omega (arith, e)) (All-cons is_other 52 (drop 2 version_line) (λ e. omega (arith, e)) (All-cons is_other 116 (drop 3 version_line) (λ e. omega (arith, e)) (All-cons is_other 114 (drop 4 version_line) (λ e. omega (arith, e)) (All-cons is_other 97 (drop 5 version_line) (λ e. omega (arith, e)) (All-cons is_other 99 (drop 6 version_line) (λ e. omega (arith, e)) (All-cons is_other 101 (drop 7 version_line) (λ e. omega (arith, e)) (All-cons is_other 32 (drop 8 version_line) (λ e. omega (arith, e)) (All-cons is_other 50 (drop 9 version_line) (λ e. omega (arith, e)) (All-nil is_other)))))))))

-- what stands before a newline is one line alone
cut : (a b x y : List ℕ) → IsOneLine a → IsOneLine b → a ++ 10 ∷ x ≡ b ++ 10 ∷ y → a ≡ b
cut [] [] x y one_a one_b same = refl
cut [] (c ∷ b) x y one_a one_b same = absurd (All-head is_other c b one_b (sym (head_of 10 c x (b ++ 10 ∷ y) same)))
cut (c ∷ a) [] x y one_a one_b same = absurd (All-head is_other c a one_a (head_of c 10 (a ++ 10 ∷ x) y same))
cut (c ∷ a) (d ∷ b) x y one_a one_b same =
    ap (λ byte. byte ∷ a) (head_of c d (a ++ 10 ∷ x) (b ++ 10 ∷ y) same)
    ∙ ap (λ (t : List ℕ). d ∷ t) (cut a b x y (All-tail is_other c a one_a) (All-tail is_other d b one_b) (tail_of c d (a ++ 10 ∷ x) (b ++ 10 ∷ y) same))

-- bytes that hold a newline are not one line
pub holds_newline : (a x : List ℕ) → IsOneLine (a ++ 10 ∷ x) → ⊥
holds_newline [] x one = All-head is_other 10 x one refl
holds_newline (c ∷ a) x one = holds_newline a x (All-tail is_other c (a ++ 10 ∷ x) one)

is_true_not_false : (b : Bool) → IsTrue b → b ≡ false → ⊥
is_true_not_false b holds fails = cc

-- a line that begins bytes of an unknown version is its line
first_is : (bytes line rest : List ℕ) (u : HasUnknownVersion bytes) → IsOneLine line → bytes ≡ line ++ 10 ∷ rest → u.first ≡ line
first_is bytes line rest u one is = cut u.first line u.rest rest u.one one (sym (append_assoc u.first (10 ∷ []) u.rest) ∙ sym u.bytes_are ∙ is)

-- and no trace of a version that is known begins so
not_version_2 : (entries : List Entry) (bytes rest : List ℕ) → bytes ≡ versioned_text Two entries ++ rest → HasUnknownVersion bytes → ⊥
not_version_2 entries bytes rest is u = u.is_other (first_is bytes version_line (trace_text entries ++ rest) u version_is_one_line is)

not_an_entry : LinesHoldNoNewline → (entry : Entry) (entries : List Entry) (bytes rest : List ℕ) → bytes ≡ versioned_text One (entry ∷ entries) ++ rest
    → HasUnknownVersion bytes → ⊥
not_an_entry hold entry entries bytes rest is u =
    let line = entry_text entry in
    let begins : bytes ≡ line ++ 10 ∷ (trace_text entries ++ rest) =
    is ∙ append_assoc (ended line) (trace_text entries) rest ∙ append_assoc line (10 ∷ []) (trace_text entries ++ rest) in
    let same = first_is bytes line (trace_text entries ++ rest) u (one_line line (hold.0 entry)) begins in
    is_true_not_false (tells_version line) (subst IsTrue (ap tells_version same) u.tells) (no_entry_tells entry)

-- nor a line that is not whole
not_torn : (bytes torn left : List ℕ) → IsOneLine torn → bytes ≡ torn ++ left → left ≡ [] → HasUnknownVersion bytes → ⊥
not_torn bytes torn left one is none u =
    let whole : bytes ≡ torn = is ∙ ap (λ (l : List ℕ). torn ++ l) none ∙ append-nil torn in
    holds_newline u.first u.rest (subst IsOneLine (sym whole ∙ u.bytes_are ∙ append_assoc u.first (10 ∷ []) u.rest) one)

-- the bytes are what is read of them, and what is behind it
never_read : LinesHoldNoNewline → (version : TraceVersion) (entries : List Entry) (bytes torn left : List ℕ) → IsOneLine torn
    → bytes ≡ (versioned_text version entries ++ torn) ++ left → left ≡ [] → HasUnknownVersion bytes → ⊥
never_read hold Two entries bytes torn left one is none u = not_version_2 entries bytes (torn ++ left) (is ∙ append_assoc (versioned_text Two entries) torn left) u
never_read hold One [] bytes torn left one is none u = not_torn bytes torn left one is none u
never_read hold One (entry ∷ entries) bytes torn left one is none u =
    not_an_entry hold entry entries bytes (torn ++ left) (is ∙ append_assoc (versioned_text One (entry ∷ entries)) torn left) u

never_bad : LinesHoldNoNewline → (version : TraceVersion) (entries : List Entry) (bytes bad rest : List ℕ) → IsOneLine bad → IsBadBehind version entries bad
    → bytes ≡ (versioned_text version entries ++ ended bad) ++ rest → HasUnknownVersion bytes → ⊥
never_bad hold Two entries bytes bad rest one behind is u = not_version_2 entries bytes (ended bad ++ rest) (is ∙ append_assoc (versioned_text Two entries) (ended bad) rest) u
never_bad hold One [] bytes bad rest one behind is u =
    let same = first_is bytes bad rest u one (is ∙ append_assoc bad (10 ∷ []) rest) in
    is_true_not_false (tells_version bad) (subst IsTrue (ap tells_version same) u.tells) behind.1
never_bad hold One (entry ∷ entries) bytes bad rest one behind is u =
    not_an_entry hold entry entries bytes (ended bad ++ rest) (is ∙ append_assoc (versioned_text One (entry ∷ entries)) (ended bad) rest) u

pub read_as_unknown : LinesHoldNoNewline → (old new : Option (List ℕ)) (version : TraceVersion) (entries : List Entry) (at : TraceEnd) → IsRead old new version entries at
    → IfSome old (λ bytes. HasUnknownVersion bytes → MayEndAtUnknown at)
read_as_unknown hold None new version entries at read = tt
read_as_unknown hold (Some bytes) new version entries end.UnknownVersion read = λ u. tt
read_as_unknown hold (Some bytes) new version entries end.DeviceFailed read = λ u. tt
read_as_unknown hold (Some bytes) new version entries end.NoMemory read = λ u. tt
read_as_unknown hold (Some bytes) None version entries end.Whole (held, taken, at_end) = absurd taken
read_as_unknown hold (Some bytes) (Some left) version entries end.Whole (held, taken, at_end) = λ u.
    never_read hold version entries bytes [] left (All-nil is_other) (taken ∙ ap (λ (l : List ℕ). l ++ left) (sym (append-nil (versioned_text version entries)))) at_end u
read_as_unknown hold (Some bytes) None version entries end.Torn (held, (torn, one, some, taken, at_end)) = absurd taken
read_as_unknown hold (Some bytes) (Some left) version entries end.Torn (held, (torn, one, some, taken, at_end)) = λ u.
    never_read hold version entries bytes torn left one taken at_end u
read_as_unknown hold (Some bytes) new version entries (end.BadLine number) (held, number_is, (bad, one, behind, (rest, is))) = λ u.
    never_bad hold version entries bytes bad rest one behind (sym is) u
