-- The words of a received message are as many as its tag says.
use Rattle.std.proofs.Common.{◌≡◌, ℕ, ◌+◌, ◌*◌, ◌≤◌, Bool, true, false, List, [], ◌∷◌, length, arith}
use Rattle.std.proofs.lemmas.List.{length-append}
use Rattle.ipc_words.specs.MsgTag.{untyped_of, typed_of}
use Rattle.ipc_words.specs.TagFields.{received_tag}
use Rattle.ipc_items.specs.declared.buffer_list.Substring.{Substring}
use Rattle.ipc_items.specs.Pieces.{simple_items}
use Rattle.ipc_history.specs.Calls.{tag_of, words_of, strings_of, buffers_of}
use Rattle.ipc_history.specs.Matching.{is_propagated}
use Rattle.ipc_history.specs.Outcomes.{HasItsWords, received}
use Rattle.ipc_history.specs.Legal.{Legal}
use Rattle.ipc_history.specs.declared.entry.Entry.{Entry}
use Rattle.ipc_laws.proofs.Normal.{normal_message, few_strings}

-- two words for each string that has a buffer string
simple_length : (buffers : List (List Substring)) (strings : List (List ℕ)) → length strings ≤ length buffers → length (simple_items buffers strings) ≡ 2 * length strings
simple_length buffers [] h = omega arith
simple_length [] (s ∷ strings) h = absurd (omega arith)
simple_length (b ∷ buffers) (s ∷ strings) h =
    let rest = simple_length buffers strings (omega arith) in
    omega arith

-- the counts of a tag that a receiver gets
tag_counts : (tag strings : ℕ) (p : Bool) → strings ≤ 31 →
    untyped_of (received_tag tag (2 * strings) p) + typed_of (received_tag tag (2 * strings) p) ≡ untyped_of tag + 2 * strings
tag_counts tag strings true few = omega arith
tag_counts tag strings false few = omega arith

-- a message that fits the buffer strings of its receiver
pub received_counted : (H : List Entry) → Legal H → (n m : ℕ) → length (strings_of H n) ≤ length (buffers_of H m) → HasItsWords (received H n m).tag (received H n m).words
received_counted H h n m fits =
    let normal = normal_message H h n in
    let counts = tag_counts (tag_of H n) (length (strings_of H n)) (is_propagated H n) (few_strings H h n) in
    let words = length-append (words_of H n) (simple_items (buffers_of H m) (strings_of H n)) in
    let items = simple_length (buffers_of H m) (strings_of H n) fits in
    record {
      counted = omega (arith, words, items, counts, normal.untyped);
      few = omega (arith, words, items, normal.together);
    }
