-- The calls of a legal history are in normal form.
use Rattle.std.proofs.lemmas.Bool.{leb-true}
use Rattle.std.proofs.lemmas.Option.{same_Some}
use Rattle.std.proofs.Common.{◌≡◌, refl, sym, ap, ◌∙◌, ℕ, ◌+◌, ◌*◌, ◌≤◌, zero-le, lit≤, true, eqb-true, List, length, Option, Some, None, arith}
use Rattle.ipc_words.specs.Limits.{max_string_bytes}
use Rattle.ipc_words.specs.MsgTag.{untyped_of, typed_of}
use Rattle.ipc_items.specs.Strings.{size_of}
use Rattle.ipc_history.specs.CallParts.{CallParts, is_normal}
use Rattle.ipc_history.specs.Calls.{call_at, is_called, tag_of, words_of, strings_of, message_size}
use Rattle.ipc_history.specs.NextOutput.{MovesFit}
use Rattle.ipc_history.specs.Legal.{Legal, is_admissible}
use Rattle.ipc_history.specs.declared.entry.Entry.{Entry}
use Rattle.ipc_history.specs.declared.entry.Input.TheVariants.{Called}
use Rattle.ipc_laws.specs.Laws.{IsNormalMessage}
use Rattle.ipc_laws.proofs.Histories.{admitted_at, called_place}
use Rattle.ipc_laws.proofs.Moving.{moved_within}
use Rattle.ipc_laws.proofs.Tests.{left, right}

-- a call that may be entered is in normal form
entered_normal : (P : List Entry) (n thread : ℕ) (call : CallParts) → is_admissible P (Called n thread call) ≡ true → is_normal call ≡ true
unfolding is_admissible
entered_normal P n thread call h = right _ _ h

is_there : (H : List Entry) (n : ℕ) (c : ℕ × CallParts) → call_at H n ≡ Some c → is_called H n ≡ true
unfolding is_called
is_there H n c e = rw e refl

-- a call of a legal history is in normal form, since it was entered
pub calls_are_normal : (H : List Entry) → Legal H → (n thread : ℕ) (call : CallParts) → call_at H n ≡ Some (thread, call) → is_normal call ≡ true
calls_are_normal H h n thread call e =
    let made = called_place H n (is_there H n (thread, call) e) in
    let same : (made.thread, made.call) ≡ (thread, call) = same_Some _ _ (sym made.is ∙ e) in
    ap (λ c. is_normal c.1) (sym same) ∙ entered_normal made.at.front n made.thread made.call (admitted_at H h (Called n made.thread made.call) made.at)

-- what the normal form says of a message
pub record IsCounted (call : CallParts) : Type 0 where
  pub untyped : untyped_of call.tag ≡ length call.words
  pub typed : typed_of call.tag ≡ 2 * length call.strings
  pub together : length call.words + 2 * length call.strings ≤ 63
  pub size : size_of call.strings ≤ max_string_bytes

pub normal_counts : (call : CallParts) → is_normal call ≡ true → IsCounted call
unfolding is_normal
normal_counts call h =
    let tag = left _ _ (left _ _ (left _ _ (left _ _ h))) in
    let counts = left _ _ (left _ _ (left _ _ tag)) in
    record {
      untyped = eqb-true _ _ (left _ _ (left _ _ counts));
      typed = eqb-true _ _ (right _ _ (left _ _ counts));
      together = leb-true _ _ (right _ _ counts);
      size = leb-true _ _ (right _ _ h);
    }

-- so does what is read of the call n; a call that is not there has no message at all
pub normal_message : (H : List Entry) → Legal H → (n : ℕ) → IsNormalMessage H n
unfolding tag_of words_of strings_of message_size
normal_message H h n = go (call_at H n) refl
  where
    go : (o : Option (ℕ × CallParts)) → call_at H n ≡ o → IsNormalMessage H n
    go None e = record { untyped = rw e refl; typed = rw e refl; together = rw e (lit≤ tt); size = rw e zero-le }
    go (Some c) e =
        let counted = normal_counts c.1 (calls_are_normal H h n c.0 c.1 e) in
        record { untyped = rw e counted.untyped; typed = rw e counted.typed; together = rw e counted.together; size = rw e counted.size }

-- the strings of a message are at most 31
pub few_strings : (H : List Entry) → Legal H → (n : ℕ) → length (strings_of H n) ≤ 31
few_strings H h n = let m = normal_message H h n in omega (arith, m.together)

-- no call copies more bytes than a message may have
pub moves_fit : (H : List Entry) → Legal H → MovesFit H
moves_fit H h n = let m = normal_message H h n in omega (arith, m.size, moved_within H h n)
