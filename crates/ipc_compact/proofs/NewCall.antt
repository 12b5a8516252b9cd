-- A call that is entered: nothing is said of it yet. From ipc_threads, whose lemmas are private.
use Rattle.std.proofs.lemmas.Bool.{false_from_ne_true}
use Rattle.std.proofs.Common.{◌≡◌, refl, ◌∙◌, ℕ, ◌==◌, ◌&&◌, eq-eqb, true, false, List, [], ◌∷◌, ◌++◌, append-nil, Some, None, inl, inr, arith}
use Rattle.std.specs.List.{list_any}
use Rattle.ipc_words.specs.ThreadId.{nilthread}
use Rattle.ipc_history.specs.CallParts.{CallParts}
use Rattle.ipc_history.specs.Entries.{names, calls, closes}
use Rattle.ipc_history.specs.Calls.{call_at, is_called, caller_of, to_of, from_of}
use Rattle.ipc_history.specs.Threads.{is_live}
use Rattle.ipc_history.specs.Phases.{is_sent, is_over, open_call, receiver_of, sender_of, moved_bytes}
use Rattle.ipc_history.specs.Matching.{before_call, from_specifier}
use Rattle.ipc_history.specs.Legal.{Legal, Follows}
use Rattle.ipc_history.specs.declared.entry.Entry.{Entry}
use Rattle.ipc_history.specs.declared.entry.Entry.TheVariants.{Given}
use Rattle.ipc_history.specs.declared.entry.Input.TheVariants.{Called}
use Rattle.ipc_laws.proofs.Changing.{any_push}
use Rattle.ipc_laws.proofs.Endings.{closes_names, live_unbroken}
use Rattle.ipc_laws.proofs.Growth.{is_called_kept, open_is_called}
use Rattle.ipc_laws.proofs.Histories.{follows_at, named_open}
use Rattle.ipc_laws.proofs.Numbering.{called_below, calls_called, entered as entered_free}
use Rattle.ipc_laws.proofs.OneOpen.{caller_at, free_parts}
use Rattle.ipc_laws.proofs.Places.{any_at, any_place}
use Rattle.ipc_laws.proofs.Settling.{legal_push}
use Rattle.ipc_laws.proofs.Tests.{not_both}
use Rattle.ipc_laws.proofs.ThreadChanges.{has_broken_push}
use Rattle.ipc_laws.proofs.Silent.{Before, unnamed_front}
use Rattle.ipc_laws.proofs.Calling.{bool_cases}

module _ (P : List Entry) (n t : ℕ) (call : CallParts) (legal : Legal P) (follows : Follows P (Given (Called n t call))) where
  abbrev e : Entry
  e = Given (Called n t call)

  abbrev Q : List Entry
  Q = P ++ Given (Called n t call) ∷ []

  legal_now : Legal Q
  legal_now = legal_push P e legal follows

  pub alive : is_live P t ≡ true
  unfolding Follows
  alive = (free_parts P t (entered_free P n t call follows.1).0).0

  idle : open_call P t ≡ None
  unfolding Follows
  idle = (free_parts P t (entered_free P n t call follows.1).0).1

  -- the call is new
  pub uncalled : is_called P n ≡ false
  unfolding Follows
  uncalled = false_from_ne_true _ (λ called. let below = called_below P legal n called in omega (arith, (entered_free P n t call follows.1).1, below))

  pub unnamed : list_any (names n) P ≡ false
  unnamed = false_from_ne_true _ (λ named.
      let p = any_place (names n) P named in
      let f = follows_at P legal p.0 p.1 in
      not_both (elim (bool_cases (calls n p.0)) [
        | inl enters ↦ calls_called P n (any_at (calls n) P p.0 p.1 enters)
        | inr other ↦ rw p.1.whole (is_called_kept p.1.front (p.0 ∷ p.1.rest) n (open_is_called p.1.front n (named_open p.1.front p.0 f n p.2 other)))
      ]) uncalled)

  pub front : Before n P (e ∷ [])
  front = unnamed_front n P (e ∷ []) unnamed

  pub here : call_at Q n ≡ Some (t, call)
  unfolding call_at
  here = front.call ∙ rw (eq-eqb n n refl) refl

  pub new_caller : caller_of Q n ≡ t
  new_caller = caller_at Q n t call here

  pub before_it : before_call Q n ≡ P
  unfolding before_call
  before_it = front.calls ∙ rw (eq-eqb n n refl) (append-nil P)

  pub unsent : is_sent Q n ≡ false
  unfolding is_sent
  unsent = front.sends

  pub unpaired : receiver_of Q n ≡ None
  unfolding receiver_of
  unpaired = front.receiver

  pub unsending : sender_of Q n ≡ None
  unfolding sender_of
  unsending = front.sender

  pub unmoved : moved_bytes Q n ≡ 0
  unfolding moved_bytes
  unmoved = front.bytes

  pub wanted : from_specifier Q n ≡ call.from
  unfolding from_specifier from_of
  wanted = rw (front.turned, here) refl

  pub unclosed : list_any (closes n) Q ≡ false
  unclosed = any_push (closes n) P e ∙ rw (false_from_ne_true (list_any (closes n) P) (λ some. let p = any_place (closes n) P some in not_both (any_at (names n) P p.0 p.1 (closes_names n p.0 p.2).0) unnamed)) refl

  pub over : is_over Q n ≡ ((call.from == nilthread) && (call.to == nilthread))
  unfolding is_over caller_of from_of to_of
  over = rw (unclosed, here, has_broken_push P e t refl, live_unbroken P t alive, unsent) refl
