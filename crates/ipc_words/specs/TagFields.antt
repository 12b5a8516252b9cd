-- L4 X.2 manual, message tag (MR0): a tag's word and its fields determine each other.
use Rattle.std.specs.Prelude.{ℕ, ◌+◌, ◌*◌, ◌^◌, ◌<◌, Bool, false}
use Rattle.ipc_words.specs.Bits.{bit_of}
use Rattle.ipc_words.specs.MsgTag.{untyped_of, typed_of, propagates, redirects, crosses, has_failed, label_of}
use Rattle.ipc_words.specs.declared.tag_fields.TagFields.{TagFields}

-- the word of a tag: each field at its place
abbrev pub tag_of : TagFields → ℕ
tag_of fields =
    fields.untyped
    + 2 ^ 6 * fields.typed
    + 2 ^ 12 * bit_of fields.propagated
    + 2 ^ 13 * bit_of fields.redirected
    + 2 ^ 14 * bit_of fields.crossed
    + 2 ^ 15 * bit_of fields.failed
    + 2 ^ 16 * fields.label

-- the fields of a tag's word
abbrev pub fields_of : ℕ → TagFields
fields_of tag =
    record {
      untyped = untyped_of tag;
      typed = typed_of tag;
      propagated = propagates tag;
      redirected = redirects tag;
      crossed = crosses tag;
      failed = has_failed tag;
      label = label_of tag;
    }

-- no field is past its width: u and t have 6 bits, the label has 48
abbrev pub FitsTag : TagFields → Type 0
FitsTag fields = (fields.untyped < 2 ^ 6) × (fields.typed < 2 ^ 6) × (fields.label < 2 ^ 48)

-- the tag that a receiver gets: u and the label as they were sent, t and p as given, and r, X and E
-- 0
abbrev pub received_tag : ℕ → ℕ → Bool → ℕ
received_tag sent t p =
    tag_of (record {
      untyped = untyped_of sent;
      typed = t;
      propagated = p;
      redirected = false;
      crossed = false;
      failed = false;
      label = label_of sent;
    })
