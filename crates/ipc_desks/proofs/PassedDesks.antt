-- A transfer that begins and ends: two entries that are taken note of at once.
use Rattle.std.proofs.Common.{◌≡◌, refl, sym, ap, ◌∙◌, subst, ℕ, ◌≤◌, ◌==◌, true, false, not, Bool, if◌then◌else◌, List, [], ◌∷◌, ◌++◌, length, Some, None, inl}
use Rattle.ipc_words.specs.ThreadId.{nilthread, number_of}
use Rattle.ipc_items.specs.declared.buffer_list.Substring.{Substring}
use Rattle.ipc_history.specs.Calls.{caller_of, from_of, buffers_of}
use Rattle.ipc_history.specs.Outcomes.{HasItsWords, nothing, received, timed}
use Rattle.ipc_history.specs.Phases.{is_over}
use Rattle.ipc_history.specs.Threads.{now}
use Rattle.ipc_history.specs.Legal.{Legal, Follows}
use Rattle.ipc_history.specs.declared.entry.Entry.{Entry}
use Rattle.ipc_history.specs.declared.entry.Entry.TheVariants.{Written}
use Rattle.ipc_history.specs.declared.entry.Output.TheVariants.{Began, Ended}
use Rattle.ipc_laws.proofs.Befores.{shown_kept}
use Rattle.ipc_laws.proofs.Changing.{changes}
use Rattle.ipc_laws.proofs.Growth.{caller_of_kept, from_of_kept, open_is_called}
use Rattle.ipc_laws.proofs.Settling.{legal_push}
use Rattle.ipc_threads.specs.Standings.{standing_of}
use Rattle.ipc_threads.specs.declared.slot.Standing.{Standing}
use Rattle.ipc_threads.proofs.Holders.{standing_number}
use Rattle.ipc_threads.proofs.OutputCalls.{both_open}
use Rattle.ipc_desks.specs.Desks.{Keeps, desk_at}
use Rattle.ipc_desks.specs.Finishes.{finishes, is_named}
use Rattle.ipc_desks.specs.Messages.{MessageParts, delivered, message_of}
use Rattle.ipc_desks.specs.Steps.{Changed, Moved, buffers_in, emptied, finished, unbuffered}
use Rattle.ipc_desks.specs.declared.desk.Desk.{Desk}
use Rattle.ipc_desks.proofs.EndedNotes.{fits_buffers, has_words, is_done, put_together, waits_on}
use Rattle.ipc_desks.proofs.HandOver.{buffers_there, message_there}
use Rattle.ipc_desks.proofs.OutputDesks.{ended_finishes}
use Rattle.ipc_desks.proofs.QuietEntries.{idle_began, idle_keeps, quiet_unnoted}
use Rattle.ipc_desks.proofs.Standings.{standing_caller, standing_from, standing_shown}

module _ (P : List Entry) (n m : ℕ) (legal : Legal P) (begins : Follows P (Written (Began n m))) (ends : Follows (P ++ Written (Began n m) ∷ []) (Written (Ended n m))) (s : Standing) (is : s ≡ standing_of P n) where
  abbrev R : List Entry
  R = P ++ Written (Began n m) ∷ []

  abbrev S : List Entry
  S = R ++ Written (Ended n m) ∷ []

  legal_then : Legal R
  legal_then = legal_push P (Written (Began n m)) legal begins

  pub pass_legal : Legal S
  pass_legal = legal_push R (Written (Ended n m)) legal_then ends

  open_one : (is_over P n ≡ false) × (is_over P m ≡ false)
  open_one = both_open P (Began n m) begins n m (refl, refl)

  sender_caller : caller_of R n ≡ caller_of P n
  sender_caller = caller_of_kept P (Written (Began n m) ∷ []) n (open_is_called P n open_one.0)

  receiver_caller : caller_of R m ≡ caller_of P m
  receiver_caller = caller_of_kept P (Written (Began n m) ∷ []) m (open_is_called P m open_one.1)

  now_then : now R ≡ now P
  now_then = (changes P (Written (Began n m))).moment

  -- what is kept of the sending call
  by_caller : (standing_of R n).caller ≡ s.caller
  by_caller = standing_caller R n ∙ (sender_caller ∙ sym (ap (λ s. s.caller) is ∙ standing_caller P n))

  by_shown : (standing_of R n).shown ≡ s.shown
  by_shown = standing_shown R n ∙ (shown_kept P (Written (Began n m) ∷ []) n (open_is_called P n open_one.0) ∙ sym (ap (λ s. s.shown) is ∙ standing_shown P n))

  by_from : (standing_of R n).from ≡ s.from
  by_from = standing_from R n ∙ (from_of_kept P (Written (Began n m) ∷ []) n (open_is_called P n open_one.0) ∙ sym (ap (λ s. s.from) is ∙ standing_from P n))

  -- what is delivered
  told : (message : MessageParts) (buffers : List (List Substring)) → message ≡ message_of R n → buffers ≡ buffers_of R m → delivered m message s.caller s.shown buffers ≡ received R n m
  told message buffers a b = subst (λ c. delivered m message c s.shown buffers ≡ received R n m) by_caller (subst (λ x. delivered m message (standing_of R n).caller x buffers ≡ received R n m) by_shown (put_together R n m legal_then ends message (standing_of R n) buffers a refl b))

  pub told_words : (message : MessageParts) (buffers : List (List Substring)) → message ≡ message_of R n → buffers ≡ buffers_of R m → HasItsWords (delivered m message s.caller s.shown buffers).tag (delivered m message s.caller s.shown buffers).words
  told_words message buffers a b = subst (λ c. HasItsWords (delivered m message c s.shown buffers).tag (delivered m message c s.shown buffers).words) by_caller (subst (λ x. HasItsWords (delivered m message (standing_of R n).caller x buffers).tag (delivered m message (standing_of R n).caller x buffers).words) by_shown (has_words R n m legal_then ends message (standing_of R n) buffers a refl b))

  pub told_fits : (message : MessageParts) (buffers : List (List Substring)) → message ≡ message_of R n → buffers ≡ buffers_of R m → length message.strings ≤ length buffers
  told_fits = fits_buffers R n m legal_then ends

  -- whose calls are over with it
  pub pass_quiet : (taken : List ℕ) (desks : List Desk) → Keeps P taken desks → (t : ℕ) → finishes P (Written (Began n m)) t ≡ false
  pass_quiet taken desks keeps = (quiet_unnoted P (Began n m) legal begins taken desks keeps (inl (n, m, refl))).finishes

  pub pass_finishes : (r : Standing) → r ≡ standing_of P m → (t : ℕ) → is_named (record { first = if s.from == nilthread then Some s.caller else None; second = Some r.caller }) t ≡ finishes R (Written (Ended n m)) t
  pass_finishes r at t = go (s.from == nilthread) (ap (λ f. f == nilthread) (sym (standing_from R n) ∙ by_from))
    where
      sends : s.caller ≡ caller_of R n
      sends = sym by_caller ∙ standing_caller R n

      receives : r.caller ≡ caller_of R m
      receives = ap (λ s. s.caller) at ∙ (standing_caller P m ∙ sym receiver_caller)

      go : (b : Bool) → (from_of R n == nilthread) ≡ b → is_named (record { first = if b then Some s.caller else None; second = Some r.caller }) t ≡ finishes R (Written (Ended n m)) t
      go true e = rw (sends, receives) ((ended_finishes R n m legal_then ends t).0 e)
      go false e = rw receives ((ended_finishes R n m legal_then ends t).1 e)

  module _ (i j : ℕ) (from : i ≡ number_of (caller_of P n)) (to : j ≡ number_of (caller_of P m)) (taken : List ℕ) (old : List Desk) (keeps : Keeps P taken old) where
    from_then : i ≡ number_of (caller_of R n)
    from_then = from ∙ ap number_of (sym sender_caller)

    to_then : j ≡ number_of (caller_of R m)
    to_then = to ∙ ap number_of (sym receiver_caller)

    keeps_then : Keeps R taken old
    keeps_then = idle_keeps P (Written (Began n m)) legal begins (idle_began n m) taken old keeps

    pub message_is : (desk_at old i).message ≡ Some (message_of R n)
    message_is = ap (λ k. (desk_at old k).message) from_then ∙ message_there R n m legal_then ends taken old keeps_then

    module _ (two : List Desk) (takes : Changed i emptied old two) where
      pub buffers_is : buffers_in (desk_at two j).told ≡ buffers_of R m
      buffers_is = ap (λ k. buffers_in (desk_at two k).told) to_then ∙ buffers_there R n m legal_then ends taken old keeps_then two (subst (λ k. Changed k emptied old two) from_then takes)

      module _ (three four : List Desk) (unbuffers : Changed j unbuffered two three) (message : MessageParts) (buffers : List (List Substring)) (a : message ≡ message_of R n) (b : buffers ≡ buffers_of R m) (moment : ℕ) (at : moment ≡ now P) (tells : Changed j (finished (timed moment (delivered m message s.caller s.shown buffers))) three four) where
        moves : Moved i j old three
        moves = record {
          size = unbuffers.size ∙ takes.size;
          sender = λ apart. unbuffers.beside i apart ∙ takes.here;
          receiver = λ apart. unbuffers.here ∙ ap unbuffered (takes.beside j (λ e. apart (sym e)));
          beside = λ k p q. unbuffers.beside k q ∙ takes.beside k p;
        }

        outcome : timed moment (delivered m message s.caller s.shown buffers) ≡ timed (now R) (received R (standing_of R n).number m)
        outcome = ap (λ x. timed x (delivered m message s.caller s.shown buffers)) (at ∙ sym now_then) ∙ ap (timed (now R)) (told message buffers a b ∙ ap (λ k. received R k m) (sym (standing_number R n)))

        pub pass_waits : not (s.from == nilthread) ≡ true → Keeps S taken four
        pass_waits h = waits_on R n m legal_then ends taken old three four keeps_then (standing_of R n) refl i j from_then to_then (timed moment (delivered m message s.caller s.shown buffers)) outcome moves tells (ap (λ f. not (f == nilthread)) by_from ∙ h)

        pub pass_done : (five : List Desk) → Changed i (finished (timed moment (nothing n))) four five → (s.from == nilthread) ≡ true → Keeps S taken five
        pass_done five done h = is_done R n m legal_then ends taken old three four keeps_then (standing_of R n) refl i j from_then to_then (timed moment (delivered m message s.caller s.shown buffers)) outcome moves tells five (timed moment (nothing n)) (ap (λ x. timed x (nothing n)) (at ∙ sym now_then)) done (ap (λ f. f == nilthread) by_from ∙ h)
