-- What the program does where a transfer ends well is right.
use Rattle.std.proofs.Common.{◌≡◌, sym, ap, ◌∙◌, subst, ℕ, ◌≤◌, true, not, ◌==◌, List, [], ◌∷◌, ◌++◌, length, Some, None}
use Rattle.ipc_words.specs.ThreadId.{nilthread, number_of}
use Rattle.ipc_items.specs.declared.buffer_list.Substring.{Substring}
use Rattle.ipc_history.specs.Calls.{caller_of, from_of, buffers_of}
use Rattle.ipc_history.specs.Outcomes.{HasItsWords, OutcomeParts, nothing, received, timed}
use Rattle.ipc_history.specs.Threads.{now}
use Rattle.ipc_laws.proofs.ReceivedWords.{received_counted}
use Rattle.ipc_history.specs.Legal.{Legal, Follows}
use Rattle.ipc_history.specs.declared.entry.Entry.{Entry}
use Rattle.ipc_history.specs.declared.entry.Entry.TheVariants.{Written}
use Rattle.ipc_history.specs.declared.entry.Output.TheVariants.{Ended}
use Rattle.ipc_laws.proofs.Tests.{refuted}
use Rattle.ipc_threads.specs.Standings.{standing_of}
use Rattle.ipc_threads.specs.declared.slot.Standing.{Standing}
use Rattle.ipc_desks.specs.Desks.{Keeps}
use Rattle.ipc_desks.specs.Finishes.{finishes, is_named}
use Rattle.ipc_desks.specs.Messages.{MessageParts, delivered, message_of}
use Rattle.ipc_desks.specs.Steps.{Changed, Moved, finished}
use Rattle.ipc_desks.specs.declared.desk.Desk.{Desk}
use Rattle.ipc_desks.proofs.HandOver.{delivered_is, message_strings, strings_fit}
use Rattle.ipc_desks.proofs.OutputDesks.{ended_finishes, ended_keeps_open, ended_keeps_over}
use Rattle.ipc_threads.proofs.Holders.{standing_number}
use Rattle.ipc_desks.proofs.Standings.{standing_caller, standing_from, standing_shown}

module _ (P : List Entry) (n m : ℕ) (legal : Legal P) (follows : Follows P (Written (Ended n m))) where
  -- the outcome that is put together
  pub put_together : (message : MessageParts) (call : Standing) (buffers : List (List Substring)) → message ≡ message_of P n → call ≡ standing_of P n → buffers ≡ buffers_of P m → delivered m message call.caller call.shown buffers ≡ received P n m
  put_together message call buffers a b c = rw (a, b, c, standing_caller P n, standing_shown P n) (delivered_is P n m legal follows)

  -- and its words are as many as its tag says
  pub has_words : (message : MessageParts) (call : Standing) (buffers : List (List Substring)) → message ≡ message_of P n → call ≡ standing_of P n → buffers ≡ buffers_of P m → HasItsWords (delivered m message call.caller call.shown buffers).tag (delivered m message call.caller call.shown buffers).words
  has_words message call buffers a b c = subst (λ (o : OutcomeParts). HasItsWords o.tag o.words) (sym (put_together message call buffers a b c)) (received_counted P legal n m (strings_fit P n m legal follows))

  pub fits_buffers : (message : MessageParts) (buffers : List (List Substring)) → message ≡ message_of P n → buffers ≡ buffers_of P m → length message.strings ≤ length buffers
  fits_buffers message buffers a b = rw (a, b, message_strings P n) (strings_fit P n m legal follows)

  module _ (taken : List ℕ) (old moved told : List Desk) (keeps : Keeps P taken old) (s : Standing) (is : s ≡ standing_of P n) (i j : ℕ) (from : i ≡ number_of (caller_of P n)) (to : j ≡ number_of (caller_of P m)) (o : OutcomeParts) (outcome : o ≡ timed (now P) (received P s.number m)) (moves : Moved i j old moved) (tells : Changed j (finished o) moved told) where
    moves_now : Moved (number_of (caller_of P n)) (number_of (caller_of P m)) old moved
    moves_now = subst (λ x. Moved x (number_of (caller_of P m)) old moved) from (subst (λ x. Moved i x old moved) to moves)

    number_is : s.number ≡ n
    number_is = ap (λ s. s.number) is ∙ standing_number P n

    tells_now : Changed (number_of (caller_of P m)) (finished (timed (now P) (received P n m))) moved told
    tells_now = subst (λ x. Changed x (finished (timed (now P) (received P n m))) moved told) to (subst (λ x. Changed j (finished x) moved told) (outcome ∙ ap (λ x. timed (now P) (received P x m)) number_is) tells)

    from_is : s.from ≡ from_of P n
    from_is = ap (λ s. s.from) is ∙ standing_from P n

    pub waits_on : not (s.from == nilthread) ≡ true → Keeps (P ++ Written (Ended n m) ∷ []) taken told
    waits_on h = ended_keeps_open P n m legal follows taken old told keeps moved told moves_now tells_now (ap (λ f. f == nilthread) (sym from_is) ∙ refuted _ h)

    pub is_done : (new : List Desk) (x : OutcomeParts) → x ≡ timed (now P) (nothing n) → Changed i (finished x) told new → (s.from == nilthread) ≡ true → Keeps (P ++ Written (Ended n m) ∷ []) taken new
    is_done new x e changed h = ended_keeps_over P n m legal follows taken old new keeps moved told moves_now tells_now (ap (λ f. f == nilthread) (sym from_is) ∙ h) (subst (λ p. Changed p (finished (timed (now P) (nothing n))) told new) from (subst (λ y. Changed i (finished y) told new) e changed))

  module _ (s r : Standing) (is : s ≡ standing_of P n) (at : r ≡ standing_of P m) (t : ℕ) where
    sender_from : (s.from == nilthread) ≡ (from_of P n == nilthread)
    sender_from = ap (λ f. f == nilthread) (ap (λ s. s.from) is ∙ standing_from P n)

    pub tells_one : not (s.from == nilthread) ≡ true → is_named (record { first = None; second = Some r.caller }) t ≡ finishes P (Written (Ended n m)) t
    tells_one h = rw (at, standing_caller P m) ((ended_finishes P n m legal follows t).1 (sym sender_from ∙ refuted _ h))

    pub tells_two : (s.from == nilthread) ≡ true → is_named (record { first = Some s.caller; second = Some r.caller }) t ≡ finishes P (Written (Ended n m)) t
    tells_two h = rw (at, standing_caller P m, caller_is) ((ended_finishes P n m legal follows t).0 (sym sender_from ∙ h))
      where
        caller_is : s.caller ≡ caller_of P n
        caller_is = ap (λ s. s.caller) is ∙ standing_caller P n
