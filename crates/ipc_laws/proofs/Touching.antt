-- What an input makes possible: an output that comes after it, but was not to come before, is of a
-- call that the input touches.
use Rattle.std.proofs.lemmas.Bool.{false≢true}
use Rattle.std.proofs.Common.{◌≡◌, refl, sym, ap, ◌∙◌, ℕ, ◌+◌, ◌*◌, Bool, true, false, not, ◌&&◌, List, [], ◌∷◌, ◌++◌, Some, None, add-zero, arith}
use Rattle.std.specs.List.{list_any}
use Rattle.ipc_history.specs.Entries.{moment_in, breaks, calls, count_in, ends}
use Rattle.ipc_history.specs.Calls.{is_called, caller_of, to_of, message_size}
use Rattle.ipc_history.specs.Threads.{has_broken}
use Rattle.ipc_history.specs.Phases.{receiver_of, sender_of, is_over, is_transferring, moved_bytes}
use Rattle.ipc_history.specs.Matching.{from_specifier, matches}
use Rattle.ipc_history.specs.Timing.{is_due}
use Rattle.ipc_history.specs.NextOutput.{is_send_partner_gone, is_receive_partner_gone, is_left, meeting}
use Rattle.ipc_history.specs.Legal.{Legal}
use Rattle.ipc_history.specs.declared.entry.Entry.{Entry}
use Rattle.ipc_history.specs.declared.entry.Entry.TheVariants.{Given}
use Rattle.ipc_history.specs.declared.entry.Input.{Input}
use Rattle.ipc_history.specs.declared.entry.Input.TheVariants.{Broke}
use Rattle.ipc_history.specs.declared.entry.Output.{Output}
use Rattle.ipc_history.specs.declared.entry.Output.TheVariants.{Ended, Failed}
use Rattle.ipc_laws.specs.Locality.{LosesPartner, Possible}
use Rattle.ipc_laws.specs.Locality.LosesPartner.{Sending, Waiting, Passing, Taking}
use Rattle.ipc_laws.specs.Locality.Possible.{Ends, LosesReceiver, LosesSender, LeftSending, LeftReceiving, Meets, Expires}
use Rattle.ipc_laws.proofs.EntryLeaves.{is_new}
use Rattle.ipc_laws.proofs.Growth.{open_is_called, size_kept}
use Rattle.ipc_laws.proofs.InputLeaves.{Q, lost_receiver, lost_sender, opened_before, same_ends, same_receiver, same_sender, was_due, was_left, was_matched, was_receiving, was_sending, was_transferring}
use Rattle.ipc_laws.proofs.Moving.{moved_push, transferring_whole}
use Rattle.ipc_laws.proofs.Pairing.{pair_called, receiver_of_sender}
use Rattle.ipc_laws.proofs.PhaseParts.{due_open, left_open, left_running, meets_parts, partner_gone_receives, partner_gone_sends, passes_parts}
use Rattle.ipc_laws.proofs.Resting.{IsAtRest}
use Rattle.ipc_laws.proofs.Tests.{left, not_both}
use Rattle.ipc_laws.proofs.Together.{receiver_open, sender_open}

-- what an input touches, by the output that comes of it
pub data Touches (P : List Entry) (input : Input) (output : Output) : Type 0 where
  Fills : (n m : ℕ) → is_transferring P n m ≡ true → moved_bytes P n + count_in n (Given input) ≡ message_size P n → output ≡ Ended n m → Touches P input output
  Leaves : (n code thread : ℕ) → breaks thread (Given input) ≡ true → LosesPartner P thread n code → output ≡ Failed n code → Touches P input output
  NewSends : (n m : ℕ) → calls n (Given input) ≡ true → matches (P ++ Given input ∷ []) n m ≡ true → output ≡ meeting (P ++ Given input ∷ []) n m → Touches P input output
  NewReceives : (n m : ℕ) → calls m (Given input) ≡ true → matches (P ++ Given input ∷ []) n m ≡ true → output ≡ meeting (P ++ Given input ∷ []) n m → Touches P input output
  NewFails : (n code : ℕ) → calls n (Given input) ≡ true → output ≡ Failed n code → Touches P input output

-- the break of a thread copies nothing
pub break_copies_none : (t n : ℕ) (e : Entry) → breaks t e ≡ true → count_in n e ≡ 0
break_copies_none t n (Given (Broke thread)) h = refl
break_copies_none t n _ h = absurd (false≢true h)

-- neither over nor ended, and not left: the other caller has not ended
lives_of : (a b c : Bool) → (not a && not b && c) ≡ false → a ≡ false → b ≡ false → c ≡ false
lives_of a b c h p q = grind arith

pub other_lives : (P : List Entry) (n k m other : ℕ) → is_left P n k m other ≡ false → is_over P n ≡ false → list_any (ends k m) P ≡ false → has_broken P (caller_of P other) ≡ false
unfolding is_left
other_lives P n k m other h o u = lives_of (is_over P n) (list_any (ends k m) P) (has_broken P (caller_of P other)) h o u

module _ (P : List Entry) (l : Legal P) (rest : IsAtRest P) (input : Input) (output : Output) where
  same_moved : (n t : ℕ) → breaks t (Given input) ≡ true → moved_bytes (P ++ Given input ∷ []) n ≡ moved_bytes P n
  same_moved n t b = moved_push P (Given input) n ∙ (ap (λ k. moved_bytes P n + k) (break_copies_none t n (Given input) b) ∙ add-zero (moved_bytes P n))

  ends_touch : (n m : ℕ) → is_transferring (Q P input) n m ≡ true → moved_bytes (Q P input) n ≡ message_size (Q P input) n → output ≡ Ended n m → Touches P input output
  ends_touch n m t full is =
      let p = passes_parts (Q P input) n m t in
      let called = pair_called P l n m (sym (same_receiver P input n) ∙ p.pair) in
      Fills n m (was_transferring P input n m called.0 called.1 t) (sym (moved_push P (Given input) n) ∙ (full ∙ size_kept P (Given input ∷ []) n called.0)) is

  -- a call that was not there is entered
  new : (n : ℕ) → is_called P n ≡ false → is_over (Q P input) n ≡ false → calls n (Given input) ≡ true
  new n absent o = is_new P (Given input) n absent (open_is_called (Q P input) n o)

  loses_receiver : (n : ℕ) → is_send_partner_gone (Q P input) n ≡ true → output ≡ Failed n 0x4 → Touches P input output
  unfolding is_send_partner_gone
  loses_receiver n g is = go (is_called P n) refl (breaks (to_of P n) (Given input)) refl
    where
      go : (c : Bool) → is_called P n ≡ c → (b : Bool) → breaks (to_of P n) (Given input) ≡ b → Touches P input output
      go false c b e = NewFails n 0x4 (new n c (partner_gone_sends (Q P input) n g).opened) is
      go true c true e = Leaves n 0x4 (to_of P n) e (Sending (was_sending P input n c (left _ _ g)) refl refl) is
      go true c false e = not_both (lost_receiver P input n c e g) (rest.sends n)

  loses_sender : (n : ℕ) → is_receive_partner_gone (Q P input) n ≡ true → output ≡ Failed n 0x5 → Touches P input output
  unfolding is_receive_partner_gone
  loses_sender n g is = go (is_called P n) refl (breaks (from_specifier P n) (Given input)) refl
    where
      go : (c : Bool) → is_called P n ≡ c → (b : Bool) → breaks (from_specifier P n) (Given input) ≡ b → Touches P input output
      go false c b e = NewFails n 0x5 (new n c (partner_gone_receives (Q P input) n g).opened) is
      go true c true e = Leaves n 0x5 (from_specifier P n) e (Waiting (was_receiving P input n c (left _ _ (left _ _ (left _ _ g)))) refl refl) is
      go true c false e = not_both (lost_sender P input n c e g) (rest.receives n)

  left_sending : (n m : ℕ) → receiver_of (Q P input) n ≡ Some m → is_left (Q P input) n n m m ≡ true → output ≡ Failed n (0xe + 16 * moved_bytes (Q P input) n) → Touches P input output
  left_sending n m pair g is = go (breaks (caller_of P m) (Given input)) refl
    where
      was : receiver_of P n ≡ Some m
      was = sym (same_receiver P input n) ∙ pair

      go : (b : Bool) → breaks (caller_of P m) (Given input) ≡ b → Touches P input output
      go false e = let called = pair_called P l n m was in not_both (was_left P input n m called.0 called.1 n m e g) (rest.left_sends n m was)
      go true e =
          let called = pair_called P l n m was in
          let o = opened_before P input n called.0 (left_open (Q P input) n n m m g) in
          let u = sym (same_ends P input n m) ∙ left_running (Q P input) n n m m g in
          let om = receiver_open P l n m was u o (other_lives P n n m m (rest.left_sends n m was) o u) in
          Leaves n (0xe + 16 * moved_bytes P n) (caller_of P m) e (Passing m (transferring_whole P n m (record { pair = was; running = u; opened = o; opened_too = om })) refl refl) (is ∙ ap (λ k. Failed n (0xe + 16 * k)) (same_moved n (caller_of P m) e))

  left_receiving : (n k : ℕ) → sender_of (Q P input) n ≡ Some k → is_left (Q P input) n k n k ≡ true → output ≡ Failed n (0xf + 16 * moved_bytes (Q P input) k) → Touches P input output
  left_receiving n k pair g is = go (breaks (caller_of P k) (Given input)) refl
    where
      from : sender_of P n ≡ Some k
      from = sym (same_sender P input n) ∙ pair

      was : receiver_of P k ≡ Some n
      was = receiver_of_sender P l k n from

      go : (b : Bool) → breaks (caller_of P k) (Given input) ≡ b → Touches P input output
      go false e = let called = pair_called P l k n was in not_both (was_left P input n k called.1 called.0 k n e g) (rest.left_receives n k from)
      go true e =
          let called = pair_called P l k n was in
          let o = opened_before P input n called.1 (left_open (Q P input) n k n k g) in
          let u = sym (same_ends P input k n) ∙ left_running (Q P input) n k n k g in
          let ok = sender_open P l k n was u o (other_lives P n k n k (rest.left_receives n k from) o u) in
          Leaves n (0xf + 16 * moved_bytes P k) (caller_of P k) e (Taking k (transferring_whole P k n (record { pair = was; running = u; opened = ok; opened_too = o })) refl refl) (is ∙ ap (λ j. Failed n (0xf + 16 * j)) (same_moved k (caller_of P k) e))

  meets : (n m : ℕ) → matches (Q P input) n m ≡ true → output ≡ meeting (Q P input) n m → Touches P input output
  meets n m g is = go (is_called P n) refl (is_called P m) refl
    where
      go : (a : Bool) → is_called P n ≡ a → (b : Bool) → is_called P m ≡ b → Touches P input output
      go false a b e = NewSends n m (new n a (meets_parts (Q P input) n m g).sends.opened) g is
      go true a false b = NewReceives n m (new m b (meets_parts (Q P input) n m g).receives.opened) g is
      go true a true b = not_both (was_matched P input n m a b l g) (rest.meets n m)

  expires : moment_in (Given input) ≡ None → (n code : ℕ) → is_due (Q P input) n ≡ true → output ≡ Failed n code → Touches P input output
  expires still n code g is = go (is_called P n) refl
    where
      go : (c : Bool) → is_called P n ≡ c → Touches P input output
      go false c = NewFails n code (new n c (due_open (Q P input) n g)) is
      go true c = not_both (was_due P input n c still g) (rest.due n)

  -- so all that comes, where no time has passed, is of a call that the input touches
  pub touches : moment_in (Given input) ≡ None → Possible (P ++ Given input ∷ []) output → Touches P input output
  touches still (Ends n m t full is) = ends_touch n m t full is
  touches still (LosesReceiver n g is) = loses_receiver n g is
  touches still (LosesSender n g is) = loses_sender n g is
  touches still (LeftSending n m pair g is) = left_sending n m pair g is
  touches still (LeftReceiving n k pair g is) = left_receiving n k pair g is
  touches still (Meets n m g is) = meets n m g is
  touches still (Expires n g is) = expires still n _ g is
