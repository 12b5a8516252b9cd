-- What each version tells of a call. The lemmas of the first part have a line for each version;
-- what follows from them speaks of all.
use Rattle.std.proofs.Common.{◌≡◌, ℕ, zero, suc, ◌+◌, ◌*◌, ◌<◌, ◌≤◌, ◌==◌, inl, inr, Bool, true, false, List, [], ◌∷◌, ◌++◌, length, drop, map, sum, replicate, slice_index, nat_lt, Option, Some, None, refl, sym, ap, subst, ◌∙◌, arith}
use Rattle.std.specs.List.{AllByRecursion}
use Rattle.std.proofs.Math.Seq.{get_or-append_seam}
use Rattle.std.proofs.lemmas.List.{drop-drop, drop_at, get_or-drop, length-replicate}
use Rattle.std.proofs.lemmas.List.Sums.{sum_by-append, sum_by-cons}
use Rattle.std.proofs.lemmas.Bool.{cases_Bool, eqb-true}
use Rattle.ipc_history.specs.Outcomes.{OutcomeParts}
use Rattle.ipc_frame.specs.declared.kind.FrameKind.{FrameKind}
use Rattle.ipc_frame.specs.declared.kind.FrameKind.TheVariants.{Ipcr}
use Rattle.ipc_frame.specs.declared.kind.Side.TheVariants.{Client}
use Rattle.ipc_frame.specs.declared.version.CallEnd.{CallEnd}
use Rattle.ipc_frame.specs.declared.version.WireVersion.{WireVersion}
use Rattle.ipc_frame.specs.declared.version.WireVersion.TheVariants.{One, Two}
use Rattle.ipc_frame.specs.Numbers.{number_in, fields_in, AreFields}
use Rattle.ipc_frame.specs.Versions.{versions, version_number, version_of, is_named, ipcr_byte, end_count, end_widths, end_words, version_told, end_in, end_of}
use Rattle.ipc_frame.specs.Frames.{side_of, outcome_widths, widths}
use Rattle.ipc_frame.specs.Reading.{kind_in}
use Rattle.ipc_frame.proofs.FieldLemmas.{length_words_in, sum_eights}

-- the version that tells what was read, and what is told of an outcome
pub told_in : (version : WireVersion) (words : List ℕ) → version_told (end_in version words) ≡ version
told_in One words = refl
told_in Two words = refl

pub told_of : (version : WireVersion) (outcome : OutcomeParts) → version_told (end_of version outcome) ≡ version
told_of One outcome = refl
told_of Two outcome = refl

-- words are read as they are told, and told as they are read
pub words_found : (version : WireVersion) (head : List ℕ) → end_words (end_in version (fields_in (widths (Ipcr version)) head)) ≡ fields_in (end_widths version) head
words_found One head = refl
words_found Two head = refl

pub end_again : (end : Option CallEnd) (fields : List ℕ) → end_in (version_told end) (end_words end ++ fields) ≡ end
end_again None fields = refl
end_again (Some end) fields = refl

pub length_end : (end : Option CallEnd) → length (end_words end) ≡ end_count (version_told end)
length_end None = refl
length_end (Some end) = refl

pub few_words : (version : WireVersion) → end_count version ≤ 8
few_words One = omega arith
few_words Two = omega arith

-- the kind byte of an IPCR
pub byte_below : (version : WireVersion) → ipcr_byte version < 256
byte_below One = omega arith
byte_below Two = omega arith

pub byte_high : (version : WireVersion) → nat_lt (ipcr_byte version) 128 ≡ false
byte_high One = refl
byte_high Two = refl

pub kind_found : (version : WireVersion) (size : ℕ) → kind_in Client size (ipcr_byte version) ≡ Some (Ipcr version)
kind_found One size = refl
kind_found Two size = refl

-- the version that a HELLO names
first_version : (version : WireVersion) → is_named version ≡ false → version ≡ One
first_version One e = refl
first_version Two e = absurd (cc)

pub named_again : (version : WireVersion) → is_named version ≡ true → version_of (version_number version) ≡ Some version
named_again One e = absurd (cc)
named_again Two e = refl

pub version_found : (number : ℕ) (version : WireVersion) → version_of number ≡ Some version → (is_named version ≡ true) × (version_number version ≡ number)
version_found number version e = elim (cases_Bool (number == 2)) [
  | inl two ↦
      let e2 = rw two at e in
      let same : Two ≡ version = cc in
      subst (λ v. (is_named v ≡ true) × (version_number v ≡ number)) same (refl, sym (eqb-true number 2 two))
  | inr other ↦ let e2 = rw other at e in absurd (cc)
]

-- what holds of the version that no HELLO names, and of each that one names
pub by_name : (P : WireVersion → Type 0) → P One → ((version : WireVersion) → is_named version ≡ true → P version) → (version : WireVersion) → P version
by_name P one others version = elim (cases_Bool (is_named version)) [
  | inl named ↦ others version named
  | inr first ↦ subst P (sym (first_version version first)) one
]

-- each kind of IPCR is for clients
all_of : (all : List WireVersion) → AllByRecursion (λ kind. side_of kind ≡ Client) (map Ipcr all)
all_of [] = tt
all_of (version ∷ all) = (refl, all_of all)

pub ipcr_sides : AllByRecursion (λ kind. side_of kind ≡ Client) (map Ipcr versions)
ipcr_sides = all_of versions

-- how many bytes the numbers of an outcome take
pub outcome_head : (version : WireVersion) → sum (widths (Ipcr version)) ≡ 32 + 8 * end_count version
outcome_head version =
    let joined : sum (end_widths version ++ outcome_widths) ≡ sum (end_widths version) + sum outcome_widths = sum_by-append (λ (y : ℕ). y) (end_widths version) outcome_widths in
    omega (arith, joined, sum_eights (end_count version))

-- the numbers of an outcome are the words of its version, and those that all versions tell
fields_joined : (a b bytes : List ℕ) → fields_in (a ++ b) bytes ≡ fields_in a bytes ++ fields_in b (drop (sum a) bytes)
fields_joined [] b bytes = refl
fields_joined (width ∷ a) b bytes =
    let all : sum (width ∷ a) ≡ width + sum a = sum_by-cons (λ (y : ℕ). y) width a in
    ap (λ xs. number_in width bytes ∷ xs) (fields_joined a b (drop width bytes) ∙ ap (λ ys. fields_in a (drop width bytes) ++ fields_in b ys) (drop-drop (sum a) width bytes ∙ ap (λ n. drop n bytes) (sym all)))

pub outcome_fields : (version : WireVersion) (head : List ℕ) → fields_in (widths (Ipcr version)) head ≡ fields_in (end_widths version) head ++ fields_in outcome_widths (drop (8 * end_count version) head)
outcome_fields version head =
    fields_joined (end_widths version) outcome_widths head
    ∙ ap (λ n. fields_in (end_widths version) head ++ fields_in outcome_widths (drop n head)) (sum_eights (end_count version))

pub fields_behind : (version : WireVersion) (head : List ℕ) → drop (end_count version) (fields_in (widths (Ipcr version)) head) ≡ fields_in outcome_widths (drop (8 * end_count version) head)
fields_behind version head =
    ap (drop (end_count version)) (outcome_fields version head)
    ∙ drop_at (fields_in (end_widths version) head) (fields_in outcome_widths (drop (8 * end_count version) head)) (end_count version) (length_words_in (end_count version) head)

-- the tag stands behind the words
pub tag_behind : (version : WireVersion) (fields : List ℕ) → slice_index (drop (end_count version) fields) 0 ≡ slice_index fields (end_count version)
tag_behind version fields =
    let same : end_count version + 0 ≡ end_count version = omega arith in
    get_or-drop (end_count version) fields 0 0 ∙ ap (slice_index fields) same

pub tag_found : (version : WireVersion) (head : List ℕ) → slice_index (fields_in (widths (Ipcr version)) head) (end_count version) ≡ number_in 8 (drop (8 * end_count version) head)
tag_found version head = sym (tag_behind version _) ∙ ap (λ (xs : List ℕ). slice_index xs 0) (fields_behind version head)

pub tag_told : (end : Option CallEnd) (tag : ℕ) (fields : List ℕ) → slice_index (end_words end ++ (tag ∷ fields)) (end_count (version_told end)) ≡ tag
tag_told end tag fields =
    ap (slice_index (end_words end ++ (tag ∷ fields))) (sym (length_end end)) ∙ get_or-append_seam (end_words end) tag fields 0

pub words_passed : (end : Option CallEnd) (fields : List ℕ) → drop (end_count (version_told end)) (end_words end ++ fields) ≡ fields
words_passed end fields = drop_at (end_words end) fields (end_count (version_told end)) (length_end end)

pub length_widths : (end : Option CallEnd) → length (end_words end) ≡ length (end_widths (version_told end))
length_widths end = length_end end ∙ sym (length-replicate (end_count (version_told end)) 8)

pub are_joined : (a b vs ws : List ℕ) → AreFields a vs → AreFields b ws → AreFields (a ++ b) (vs ++ ws)
are_joined [] b [] ws h k = k
are_joined [] b (v ∷ vs) ws h k = elim h [ ]
are_joined (width ∷ a) b [] ws h k = elim h [ ]
are_joined (width ∷ a) b (v ∷ vs) ws h k = (h.0, are_joined a b vs ws h.1 k)
