-- A call, the transfer that it begins, and its end, which are taken note of at once.
use Rattle.std.proofs.Common.{◌≡◌, ◌≢◌, refl, sym, ap, ◌∙◌, subst, ℕ, ◌<◌, ◌≤◌, ◌&&◌, ◌==◌, true, false, not, Bool, if◌then◌else◌, List, [], ◌∷◌, ◌++◌, length, Some, None, arith}
use Rattle.std.specs.Prelude.{slice_set}
use Rattle.std.proofs.lemmas.List.{length-set, get_or-set_same, get_or-set_other}
use Rattle.std.proofs.lemmas.Option.{same_Some}
use Rattle.ipc_words.specs.Limits.{table_slots}
use Rattle.ipc_words.specs.ThreadId.{nilthread, number_of}
use Rattle.ipc_items.specs.declared.buffer_list.Substring.{Substring}
use Rattle.ipc_history.specs.CallParts.{CallParts}
use Rattle.ipc_history.specs.Calls.{call_at, caller_of, from_of, tag_of, buffers_of}
use Rattle.ipc_history.specs.Matching.{is_propagated, shown_sender}
use Rattle.ipc_history.specs.Outcomes.{HasItsWords, nothing, received, timed}
use Rattle.ipc_history.specs.Phases.{is_over}
use Rattle.ipc_history.specs.Threads.{now}
use Rattle.ipc_history.specs.Legal.{Legal, Follows}
use Rattle.ipc_history.specs.declared.entry.Entry.{Entry}
use Rattle.ipc_history.specs.declared.entry.Entry.TheVariants.{Given, Written}
use Rattle.ipc_history.specs.declared.entry.Input.TheVariants.{Called}
use Rattle.ipc_history.specs.declared.entry.Output.TheVariants.{Began, Ended}
use Rattle.ipc_laws.proofs.Befores.{shown_kept}
use Rattle.ipc_laws.proofs.Changing.{changes}
use Rattle.ipc_laws.specs.Exchange.{Reaches}
use Rattle.ipc_laws.proofs.ExchangeParts.{exchange_begins, exchange_ends, receiver_open}
use Rattle.ipc_laws.proofs.Growth.{caller_of_kept, open_is_called}
use Rattle.ipc_laws.proofs.OpenCalls.{caller_lives}
use Rattle.ipc_laws.proofs.Settling.{legal_push}
use Rattle.ipc_laws.proofs.Steps.{call_at_written}
use Rattle.ipc_threads.specs.Standings.{standing_of}
use Rattle.ipc_threads.proofs.CallSteps.{new_caller}
use Rattle.ipc_threads.proofs.Holders.{standing_number}
use Rattle.ipc_threads.proofs.OutputCalls.{both_open}
use Rattle.ipc_desks.specs.CallsOf.{is_busy}
use Rattle.ipc_desks.specs.Desks.{Keeps, blank_desk, desk_at}
use Rattle.ipc_desks.specs.Finishes.{finishes, is_named}
use Rattle.ipc_desks.specs.Messages.{MessageParts, delivered, message_of, prepared}
use Rattle.ipc_desks.specs.Steps.{Changed, Moved, buffers_in, emptied, entered, finished, sent_at_once, unbuffered}
use Rattle.ipc_desks.specs.declared.desk.Desk.{Desk}
use Rattle.ipc_desks.proofs.CalledDesks.{alive, called_keeps}
use Rattle.ipc_desks.proofs.EndedNotes.{fits_buffers, has_words, is_done, put_together, tells_one, tells_two, waits_on}
use Rattle.ipc_desks.proofs.HandOver.{apart, buffers_there, message_there}
use Rattle.ipc_desks.proofs.LastCalls.{absent, live_below, new_call_at}
use Rattle.ipc_desks.proofs.QuietEntries.{idle_began, idle_keeps}
use Rattle.ipc_desks.proofs.Standings.{standing_caller, standing_from, standing_shown}

and_none : (a : Bool) → (a && false) ≡ false
and_none a = grind arith

module _ (P : List Entry) (n t r : ℕ) (call : CallParts) (legal : Legal P) (follows : Follows P (Given (Called n t call))) (reaches : Reaches P t call r) where
  abbrev Q : List Entry
  Q = P ++ Given (Called n t call) ∷ []

  abbrev R : List Entry
  R = Q ++ Written (Began n r) ∷ []

  abbrev S : List Entry
  S = R ++ Written (Ended n r) ∷ []

  begins : Follows Q (Written (Began n r))
  begins = exchange_begins P n t r call legal follows reaches

  ends : Follows R (Written (Ended n r))
  ends = exchange_ends P n t r call legal follows reaches

  opened : is_over P r ≡ false
  opened = receiver_open P n t r call legal follows reaches

  legal_one : Legal Q
  legal_one = legal_push P (Given (Called n t call)) legal follows

  legal_two : Legal R
  legal_two = legal_push Q (Written (Began n r)) legal_one begins

  pub here_within : number_of t < table_slots
  here_within = live_below P legal t (alive P n t call legal follows)

  pub there_within : number_of call.to < table_slots
  there_within = rw reaches.to (live_below P legal (caller_of P r) (caller_lives P legal r opened))

  open_one : (is_over Q n ≡ false) × (is_over Q r ≡ false)
  open_one = both_open Q (Began n r) begins n r (refl, refl)

  caller_one : caller_of R n ≡ t
  caller_one = caller_of_kept Q (Written (Began n r) ∷ []) n (open_is_called Q n open_one.0) ∙ new_caller P n t call legal follows

  caller_two : caller_of R r ≡ call.to
  caller_two = caller_of_kept Q (Written (Began n r) ∷ []) r (open_is_called Q r open_one.1) ∙ (caller_of_kept P (Given (Called n t call) ∷ []) r (open_is_called P r opened) ∙ sym reaches.to)

  now_two : now R ≡ now P
  now_two = (changes Q (Written (Began n r))).moment ∙ (changes P (Given (Called n t call))).moment

  call_one : call_at Q n ≡ Some (t, call)
  unfolding Follows
  call_one = new_call_at P n t call (absent P n t call legal follows.1)

  from_two : from_of R n ≡ call.from
  unfolding from_of
  from_two = rw (call_at_written Q (Began n r) n, call_one) refl

  shown_one : shown_sender Q n ≡ t
  unfolding shown_sender is_propagated tag_of caller_of
  shown_one = rw (call_one, reaches.itself) refl

  shown_two : shown_sender R n ≡ t
  shown_two = shown_kept Q (Written (Began n r) ∷ []) n (open_is_called Q n open_one.0) ∙ shown_one

  by_caller : (standing_of R n).caller ≡ t
  by_caller = standing_caller R n ∙ caller_one

  by_shown : (standing_of R n).shown ≡ t
  by_shown = standing_shown R n ∙ shown_two

  -- what is delivered
  told : (message : MessageParts) (buffers : List (List Substring)) → message ≡ message_of R n → buffers ≡ buffers_of R r → delivered r message t t buffers ≡ received R n r
  told message buffers a b = subst (λ c. delivered r message c t buffers ≡ received R n r) by_caller (subst (λ s. delivered r message (standing_of R n).caller s buffers ≡ received R n r) by_shown (put_together R n r legal_two ends message (standing_of R n) buffers a refl b))

  pub told_words : (message : MessageParts) (buffers : List (List Substring)) → message ≡ message_of R n → buffers ≡ buffers_of R r → HasItsWords (delivered r message t t buffers).tag (delivered r message t t buffers).words
  told_words message buffers a b = subst (λ c. HasItsWords (delivered r message c t buffers).tag (delivered r message c t buffers).words) by_caller (subst (λ s. HasItsWords (delivered r message (standing_of R n).caller s buffers).tag (delivered r message (standing_of R n).caller s buffers).words) by_shown (has_words R n r legal_two ends message (standing_of R n) buffers a refl b))

  pub told_fits : (message : MessageParts) (buffers : List (List Substring)) → message ≡ message_of R n → buffers ≡ buffers_of R r → length message.strings ≤ length buffers
  told_fits = fits_buffers R n r legal_two ends

  -- whose calls the end of the transfer ends
  pub exchange_finishes : (thread : ℕ) → is_named (record { first = if call.from == nilthread then Some t else None; second = Some call.to }) thread ≡ finishes R (Written (Ended n r)) thread
  exchange_finishes thread = go (call.from == nilthread) refl
    where
      sender : (standing_of R n).caller ≡ t
      sender = standing_caller R n ∙ caller_one

      receiver : (standing_of R r).caller ≡ call.to
      receiver = standing_caller R r ∙ caller_two

      from_is : (standing_of R n).from ≡ call.from
      from_is = standing_from R n ∙ from_two

      go : (b : Bool) → (call.from == nilthread) ≡ b → is_named (record { first = if b then Some t else None; second = Some call.to }) thread ≡ finishes R (Written (Ended n r)) thread
      go true e =
          subst (λ u. is_named (record { first = Some u; second = Some call.to }) thread ≡ finishes R (Written (Ended n r)) thread) sender
          (subst (λ v. is_named (record { first = Some (standing_of R n).caller; second = Some v }) thread ≡ finishes R (Written (Ended n r)) thread) receiver
          (tells_two R n r legal_two ends (standing_of R n) (standing_of R r) refl refl thread (ap (λ f. f == nilthread) from_is ∙ e)))
      go false e =
          subst (λ v. is_named (record { first = None; second = Some v }) thread ≡ finishes R (Written (Ended n r)) thread) receiver
          (tells_one R n r legal_two ends (standing_of R n) (standing_of R r) refl refl thread (ap (λ f. not (f == nilthread)) from_is ∙ ap not e))

  -- the desks as they are between the call and the beginning of its transfer, where its message is
  -- handed out at once
  abbrev pub between : List Desk → List Desk
  between old = slice_set old (number_of t) (entered (now P) n call (prepared call) (desk_at old (number_of t)))

  pub between_enters : (old : List Desk) → length old ≡ table_slots → Changed (number_of t) (entered (now P) n call (prepared call)) old (between old)
  between_enters old size = record {
    size = length-set old (number_of t) (entered (now P) n call (prepared call) (desk_at old (number_of t)));
    here = get_or-set_same old (number_of t) (entered (now P) n call (prepared call) (desk_at old (number_of t))) blank_desk (rw size here_within);
    beside = λ k apart. get_or-set_other old (number_of t) k (entered (now P) n call (prepared call) (desk_at old (number_of t))) blank_desk apart;
  }

  sends_one : (desk : Desk) → sent_at_once n (prepared call) desk ≡ emptied (entered (now P) n call (prepared call) desk)
  sends_one desk = rw (reaches.sends, and_none (call.from == nilthread)) refl

  pub between_sends : (old two : List Desk) → length old ≡ table_slots → Changed (number_of t) (sent_at_once n (prepared call)) old two → Changed (number_of t) emptied (between old) two
  between_sends old two size sends =
      let enters = between_enters old size in
      record {
        size = sends.size ∙ sym enters.size;
        here = sends.here ∙ (sends_one (desk_at old (number_of t)) ∙ ap emptied (sym enters.here));
        beside = λ k apart. sends.beside k apart ∙ sym (enters.beside k apart);
      }

  module _ (taken : List ℕ) (old : List Desk) (keeps : Keeps P taken old) (idle : is_busy P taken t ≡ false) (one : List Desk) (enters : Changed (number_of t) (entered (now P) n call (prepared call)) old one) where
    keeps_one : Keeps Q taken one
    keeps_one = called_keeps P n t call legal follows taken keeps.called idle old one keeps enters

    keeps_two : Keeps R taken one
    keeps_two = idle_keeps Q (Written (Began n r)) legal_one begins (idle_began n r) taken one keeps_one

    pub message_is : (desk_at one (number_of t)).message ≡ Some (message_of R n)
    message_is = subst (λ u. (desk_at one (number_of u)).message ≡ Some (message_of R n)) caller_one (message_there R n r legal_two ends taken one keeps_two)

    pub sent_is : (prepared call).message ≡ message_of R n
    sent_is = same_Some (prepared call).message (message_of R n) (sym (ap (λ (d : Desk). d.message) enters.here ∙ rw reaches.sends refl) ∙ message_is)

    apart_two : number_of t ≢ number_of call.to
    apart_two e = apart R n r legal_two ends taken one keeps_two (ap number_of caller_one ∙ (e ∙ sym (ap number_of caller_two)))

    module _ (two : List Desk) (takes : Changed (number_of t) emptied one two) where
      pub buffers_is : buffers_in (desk_at two (number_of call.to)).told ≡ buffers_of R r
      buffers_is = subst (λ u. buffers_in (desk_at two (number_of u)).told ≡ buffers_of R r) caller_two (buffers_there R n r legal_two ends taken one keeps_two two (subst (λ u. Changed (number_of u) emptied one two) (sym caller_one) takes))

      module _ (three four : List Desk) (unbuffers : Changed (number_of call.to) unbuffered two three) (message : MessageParts) (buffers : List (List Substring)) (a : message ≡ message_of R n) (b : buffers ≡ buffers_of R r) (moment : ℕ) (at : moment ≡ now P) (finishes : Changed (number_of call.to) (finished (timed moment (delivered r message t t buffers))) three four) where
        moves : Moved (number_of t) (number_of call.to) one three
        moves = record {
          size = unbuffers.size ∙ takes.size;
          sender = λ apart. unbuffers.beside (number_of t) apart ∙ takes.here;
          receiver = λ apart. unbuffers.here ∙ ap unbuffered (takes.beside (number_of call.to) (λ e. apart (sym e)));
          beside = λ k p q. unbuffers.beside k q ∙ takes.beside k p;
        }

        outcome : timed moment (delivered r message t t buffers) ≡ timed (now R) (received R (standing_of R n).number r)
        outcome = ap (λ m. timed m (delivered r message t t buffers)) (at ∙ sym now_two) ∙ ap (timed (now R)) (told message buffers a b ∙ ap (λ k. received R k r) (sym (standing_number R n)))

        from_is : (standing_of R n).from ≡ call.from
        from_is = standing_from R n ∙ from_two

        pub exchange_waits : not (call.from == nilthread) ≡ true → Keeps S taken four
        exchange_waits h = waits_on R n r legal_two ends taken one three four keeps_two (standing_of R n) refl (number_of t) (number_of call.to) (ap number_of (sym caller_one)) (ap number_of (sym caller_two)) (timed moment (delivered r message t t buffers)) outcome moves finishes (ap (λ f. not (f == nilthread)) from_is ∙ h)

        pub exchange_done : (five : List Desk) → Changed (number_of t) (finished (timed moment (nothing n))) four five → (call.from == nilthread) ≡ true → Keeps S taken five
        exchange_done five done h = is_done R n r legal_two ends taken one three four keeps_two (standing_of R n) refl (number_of t) (number_of call.to) (ap number_of (sym caller_one)) (ap number_of (sym caller_two)) (timed moment (delivered r message t t buffers)) outcome moves finishes five (timed moment (nothing n)) (ap (λ m. timed m (nothing n)) (at ∙ sym now_two)) done (ap (λ f. f == nilthread) from_is ∙ h)
