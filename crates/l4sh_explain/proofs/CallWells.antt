-- Nine well-formed fields are those of a call.
use Rattle.std.proofs.Common.{◌≡◌, ℕ, List, [], ◌∷◌, IsTrue, refl}
use Rattle.ipc_history.specs.CallParts.{CallParts, is_normal}
use Rattle.ipc_lines.specs.Lines as lines
use Rattle.ipc_lines.specs.Reading.{IsCall}
use Rattle.ipc_lines.proofs.Limits.{normal_words}
use Rattle.l4sh_explain.specs.Grammars.{call_fields}
use Rattle.l4sh_explain.specs.Spellings.{SpellAll}
use Rattle.l4sh_explain.specs.Rules.{IsWellFormed}

pub record IsCallIn (texts : List (List ℕ)) : Type 0 where
  pub thread : ℕ
  pub call : CallParts
  pub well_formed : IsWellFormed thread call
  pub spelled : texts ≡ lines.call_fields thread call

pub call_in : (texts : List (List ℕ)) → SpellAll call_fields texts → IsCallIn texts
call_in [] h = absurd h
call_in (a ∷ []) h = absurd h.1
call_in (a ∷ b ∷ []) h = absurd h.1.1
call_in (a ∷ b ∷ d ∷ []) h = absurd h.1.1.1
call_in (a ∷ b ∷ d ∷ t ∷ []) h = absurd h.1.1.1.1
call_in (a ∷ b ∷ d ∷ t ∷ g ∷ []) h = absurd h.1.1.1.1.1
call_in (a ∷ b ∷ d ∷ t ∷ g ∷ o ∷ []) h = absurd h.1.1.1.1.1.1
call_in (a ∷ b ∷ d ∷ t ∷ g ∷ o ∷ w ∷ []) h = absurd h.1.1.1.1.1.1.1
call_in (a ∷ b ∷ d ∷ t ∷ g ∷ o ∷ w ∷ s ∷ []) h = absurd h.1.1.1.1.1.1.1.1
call_in (a ∷ b ∷ d ∷ t ∷ g ∷ o ∷ w ∷ s ∷ u ∷ []) h =
    let thread = h.0 in
    let to = h.1.0 in
    let from = h.1.1.0 in
    let timeouts = h.1.1.1.0 in
    let tag = h.1.1.1.1.0 in
    let originator = h.1.1.1.1.1.0 in
    let words = h.1.1.1.1.1.1.0 in
    let strings = h.1.1.1.1.1.1.1.0 in
    let buffers = h.1.1.1.1.1.1.1.1.0 in
    record {
      thread = thread.0;
      call = record { to = to.0; from = from.0; send_period = timeouts.0; receive_period = timeouts.1; tag = tag.0; originator = originator.0; words = words.0; strings = strings.0; buffers = buffers.0 };
      well_formed = record { thread_word = thread.1; to = to.1; from = from.1; send_period = timeouts.2; receive_period = timeouts.3; tag = tag.1; originator = originator.1; words = words.1; words_within = words.2; strings = strings.1; buffers = buffers.1 };
      spelled = λ i. thread.2 i ∷ to.2 i ∷ from.2 i ∷ timeouts.4 i ∷ tag.2 i ∷ originator.2 i ∷ words.3 i ∷ strings.2 i ∷ buffers.2 i ∷ [];
    }
call_in (a ∷ b ∷ d ∷ t ∷ g ∷ o ∷ w ∷ s ∷ u ∷ x ∷ xs) h = absurd h.1.1.1.1.1.1.1.1.1

-- the fields of a well-formed call are well formed
pub call_spells : (thread : ℕ) (call : CallParts) → IsWellFormed thread call → SpellAll call_fields (lines.call_fields thread call)
call_spells thread call h = (
  (thread, h.thread_word, refl),
  (
    (call.to, h.to, refl),
    (
      (call.from, h.from, refl),
      (
        (call.send_period, call.receive_period, h.send_period, h.receive_period, refl),
        (
          (call.tag, h.tag, refl),
          (
            (call.originator, h.originator, refl),
            (
              (call.words, h.words, h.words_within, refl),
              ((call.strings, h.strings, refl), ((call.buffers, h.buffers, refl), tt)),
            ),
          ),
        ),
      ),
    ),
  ),
)

-- a call that is read is well formed, and the other way round where it is in normal form
pub is_well_formed : (thread : ℕ) (call : CallParts) → IsCall thread call → IsWellFormed thread call
is_well_formed thread call h = record {
  thread_word = h.thread_word;
  to = h.to;
  from = h.from;
  send_period = h.send_period;
  receive_period = h.receive_period;
  tag = h.tag;
  originator = h.originator;
  words = h.words;
  words_within = normal_words call h.normal;
  strings = h.strings;
  buffers = h.buffers;
}

pub is_call : (thread : ℕ) (call : CallParts) → IsWellFormed thread call → IsTrue (is_normal call) → IsCall thread call
is_call thread call h normal = record {
  thread_word = h.thread_word;
  to = h.to;
  from = h.from;
  send_period = h.send_period;
  receive_period = h.receive_period;
  tag = h.tag;
  originator = h.originator;
  words = h.words;
  strings = h.strings;
  buffers = h.buffers;
  normal = normal;
}
