-- What is laid out is read, and fits.
use Rattle.std.proofs.Common.{◌≡◌, inl, inr, ℕ, ◌+◌, ◌*◌, ◌^◌, ◌≤◌, ◌<◌, ◌==◌, List, [], ◌∷◌, ◌++◌}
use Rattle.std.proofs.Common.{true, false, None, length, refl, ap, ◌∙◌, arith, length-append}
use Rattle.std.proofs.Common.{nat_lt, nat_le}
use Rattle.std.specs.List.{concat}
use Rattle.std.proofs.Math.Seq.{drop-append_seam}
use Rattle.std.proofs.lemmas.Bool.{cases_Bool, ltb-false, leb-false, le-ltb, eq-eqb}
use Rattle.std.proofs.lemmas.List.Sums.{sum_by-cons}
use Rattle.ipc_words.specs.Laws.{FieldsOfTagReadBack}
use Rattle.ipc_words.specs.Limits.{max_frame_body}
use Rattle.ipc_words.specs.TagFields.{tag_of}
use Rattle.ipc_words.specs.MsgTag.{untyped_of, typed_of}
use Rattle.ipc_words.specs.declared.tag_fields.TagFields.{TagFields}
use Rattle.ipc_items.specs.Laws.{simple_words}
use Rattle.ipc_items.specs.Strings.{size_of}
use Rattle.ipc_items.proofs.SpellLemmas.{spelled_strings}
use Rattle.ipc_items.specs.StringItem.{string_reading}
use Rattle.ipc_frame.specs.Parts.{words_of}
use Rattle.ipc_client.specs.Laws.{LaidOutStringsAreRead, MessagesFitFrames}
use Rattle.ipc_client.specs.Building.{message_fault}

pub laid_out_strings_are_read : LaidOutStringsAreRead
laid_out_strings_are_read label words strings are =
    ap (λ xs. string_reading xs (concat strings)) (drop-append_seam words (simple_words 0 strings)) ∙ spelled_strings strings are.1

length_simple : (offset : ℕ) (strings : List (List ℕ)) → length (simple_words offset strings) ≡ 2 * length strings
length_simple offset [] = refl
length_simple offset (string ∷ strings) = let h = length_simple (offset + length string) strings in omega (arith, h)

length_joined : (strings : List (List ℕ)) → length (concat strings) ≡ size_of strings
length_joined [] = refl
length_joined (string ∷ strings) = omega (
  arith,
  length-append string (concat strings),
  length_joined strings,
  sum_by-cons (λ (s : List ℕ). length s) string strings,
)

-- there is no fault
no_fault : (label : ℕ) (words : List ℕ) (strings : List (List ℕ)) → message_fault label words
    strings ≡ None → (length words + 2 * length strings ≤ 63) × (label < 2 ^ 48)
no_fault label words strings is = elim (cases_Bool (nat_lt 63 (length words + 2 * length strings))) [
  | inl many ↦ let e = rw many at is in absurd (cc)
  | inr few ↦ elim (cases_Bool (nat_le (2 ^ 48) label)) [
    | inl wide ↦ let e = rw (few, wide) at is in absurd (cc)
    | inr small ↦ (ltb-false 63 (length words + 2 * length strings) few, leb-false (2 ^ 48) label small)
  ]
]

pub messages_fit_frames : FieldsOfTagReadBack → MessagesFitFrames
messages_fit_frames back label words strings to from timeouts buffers are none few =
    let within = no_fault label words strings none in
    let fields : TagFields = record {
      untyped = length words;
      typed = 2 * length strings;
      propagated = false;
      redirected = false;
      crossed = false;
      failed = false;
      label = label;
    } in
    let same = back fields (omega (arith, within.0), omega (arith, within.0), within.1) in
    let u : untyped_of (tag_of fields) ≡ length words = ap (λ (f : TagFields). f.untyped) same in
    let t : typed_of (tag_of fields) ≡ 2 * length strings = ap (λ (f : TagFields). f.typed) same in
    let all = words ++ simple_words 0 strings in
    let count : length all ≡ length words + 2 * length strings = length-append words
    (simple_words 0 strings) ∙ ap (λ n. length words + n) (length_simple 0 strings) in
    let size = length_joined strings in
    let a : nat_lt 63 (words_of (tag_of fields)) ≡ false = le-ltb 63 (words_of (tag_of fields)) (omega (arith, u, t, within.0)) in
    let b : nat_lt 32 (length buffers.words) ≡ false = le-ltb 32 (length buffers.words) (omega (arith, few)) in
    let c : (length all == words_of (tag_of fields)) ≡ true = eq-eqb (length all)
    (words_of (tag_of fields)) (omega (arith, count, u, t)) in
    let d : nat_lt max_frame_body (46 + 8 * length all + 8 * length buffers.words + length
    (concat strings)) ≡ false = le-ltb max_frame_body (46 + 8 * length all + 8 * length buffers.words
    + length (concat strings)) (omega (arith, count, within.0, few, size, are.1)) in
    rw (a, b, c, d) refl
